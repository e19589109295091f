-- The line program in the middle of its input, and one turn of it.
--     Place                  what it has come to: the line so far and its number, the next row to be shown, the area, the bytes that it
--                            has not read yet
--     row_number             the number of the next row that the code names; none, and each number that no row has, is most_rows
--     place_of               the place that the code has come to
--     showing                there may be rows to be shown
--     row_there, at_row      there is a row of that number; the place with another row
--     row_shown, shown_text  the next row shown, and its text
--     line_ends, asked       the line ends in the input; the request that it says then
--     answered, kept         a request answered; the line kept where it does not end yet
--     line_read, line_text   the one or the other, and what is written
--     turned, turn_text      one turn: where it comes to, and what it writes
--     goes_on room m         a turn is taken while there is something to do, and room for what it writes
--     Advances room m k t    turns are taken from m on as long as it goes on: they come to k and write t
--     Takes room m k t       turns are taken from m on: they come to k and write t
--     run_at, row_to_show    a run at another row; the number to go on with, where a bad area has no row
--     before r               the run r before the piece is read
--     placed, Settled        where the code has come to; rows are left to be shown only where there is no room
--     Ready, Comes, RestShown, Advanced    what the functions of the code ask and promise. Without room the row stays as it came; with room
--                            a number that no row has is none
use Rattle.std.specs.Prelude.{◌≡◌, ℕ, suc, ◌+◌, ◌-◌, ◌<◌, ◌≤◌, min, Bool, true, false, cond, ◌&&◌, ◌||◌, List, [], ◌++◌, length, take, drop, nat_le, nat_lt, Option, Some, None}
use Rattle.area.specs.Layout.{most_rows}
use Rattle.walker.specs.Walk.{walked, go_on_at}
use Rattle.text.specs.Write.{Wrote}
use Rattle.requests.specs.declared.Request.{Request}
use Rattle.text.specs.Lines.{before_lf}
use Rattle.split.specs.Split.{Held, none, held_all, said, held_in}
use Rattle.answers.specs.Answers.{answer_of, first_shown}
use Rattle.answers.specs.Texts.{most_text, answer_text}
use Rattle.answers.specs.Show.{row_after, row_text_at, row_left, RowsShown}
use Rattle.lines.specs.Written.{next_number}
use Rattle.lines.specs.declared.Run.{Run}
use Rattle.lines.specs.declared.Progress.{Progress}

pub record Place : Type 0 where
  pub held : Held
  pub number : ℕ
  pub row : ℕ
  pub area : List ℕ
  pub input : List ℕ

abbrev pub row_number : Option ℕ → ℕ
row_number None = most_rows
row_number (Some i) = min i most_rows

abbrev pub place_of : Run → List ℕ → List ℕ → Place
place_of r l bs = record { held = held_in r.line; number = r.number; row = row_number r.row; area = l; input = bs }

-- ---- a row shown

abbrev pub showing : Place → Bool
showing m = nat_lt m.row most_rows

abbrev pub row_there : Place → Bool
row_there m = nat_lt m.row (length (walked m.area))

abbrev pub at_row : Place → ℕ → Place
at_row m i = record { held = m.held; number = m.number; row = i; area = m.area; input = m.input }

unfoldable pub row_shown : Place → Place
row_shown m = at_row m (row_after m.area m.row)

unfoldable pub shown_text : Place → List ℕ
shown_text m = row_text_at m.area m.row

-- ---- a line read

abbrev pub line_ends : Place → Bool
line_ends m = nat_lt (before_lf m.input) (length m.input)

abbrev pub asked : Place → Request
asked m = said (held_all m.held (take (before_lf m.input) m.input))

abbrev pub answered : Place → Request → Place
answered m q = record { held = none; number = next_number m.number; row = first_shown m.area q; area = (answer_of m.area q).area; input = drop (suc (before_lf m.input)) m.input }

abbrev pub kept : Place → Place
kept m = record { held = held_all m.held m.input; number = m.number; row = m.row; area = m.area; input = [] }

unfoldable pub line_read : Place → Place
line_read m = cond (line_ends m) (answered m (asked m)) (kept m)

unfoldable pub line_text : Place → List ℕ
line_text m = cond (line_ends m) (answer_text m.number (answer_of m.area (asked m)).answer) []

-- ---- turns

unfoldable pub turned : Place → Place
turned m = cond (showing m) (row_shown m) (line_read m)

unfoldable pub turn_text : Place → List ℕ
turn_text m = cond (showing m) (shown_text m) (line_text m)

unfoldable pub goes_on : ℕ → Place → Bool
goes_on room m = nat_le most_text room && (showing m || nat_lt 0 (length m.input))

pub data Advances : ℕ → Place → Place → List ℕ → Type 0 where
  stops : {room : ℕ} {m : Place} → goes_on room m ≡ false → Advances room m m []
  turns : {room : ℕ} {m k : Place} {t : List ℕ} → goes_on room m ≡ true → Advances (room - length (turn_text m)) (turned m) k t → Advances room m k (turn_text m ++ t)

pub data Takes : ℕ → Place → Place → List ℕ → Type 0 where
  none_more : {room : ℕ} {m : Place} → Takes room m m []
  one_more : {room : ℕ} {m k : Place} {t : List ℕ} → goes_on room m ≡ true → Takes (room - length (turn_text m)) (turned m) k t → Takes room m k (turn_text m ++ t)

-- ---- what the code's functions promise

-- the run r at another row
abbrev pub run_at : Run → Option ℕ → Run
run_at r i = record { line = r.line; number = r.number; row = i }

-- a bad area has no row to be shown
abbrev pub row_to_show : List ℕ → Option ℕ → ℕ
row_to_show l None = most_rows
row_to_show l (Some i) = go_on_at l i

abbrev pub before : Run → Progress
before r = record { run = r; read = 0; written = 0 }

-- where the code has come to on the area l, in the piece bs
abbrev pub placed : Progress → List ℕ → List ℕ → Place
placed p l bs = place_of p.run l (drop p.read bs)

-- in a buffer of n bytes
abbrev pub Settled : ℕ → Progress → Type 0
Settled n p = most_text ≤ n - p.written → most_rows ≤ row_number p.run.row

-- a line can be read in the piece bs, and answered into the buffer d
pub record Ready (p : Progress) (bs d : List ℕ) : Type 0 where
  pub read : p.read < length bs
  pub room : p.written + most_text ≤ length d
  pub row : p.run.row ≡ None

-- from p on the area l, in the piece bs, into the buffer d, turns come to r; l' and e are the area and the buffer afterwards
pub record Comes (p : Progress) (l bs d : List ℕ) (r : Progress) (l' e : List ℕ) : Type 0 where
  pub text : List ℕ
  pub further : p.read < r.read
  pub read : r.read ≤ length bs
  pub wrote : Wrote d p.written text e r.written
  pub inside : r.written ≤ length d
  pub settled : Settled (length d) r
  pub row : r.run.row ≡ row_left (row_number r.run.row)
  pub takes : Takes (length d - p.written) (placed p l bs) (placed r l' bs) text

-- the rows that the run w has left to be shown are, from the start of the buffer d on, as far as there is room
pub record RestShown (w : Run) (l d : List ℕ) (r : Progress) (e : List ℕ) : Type 0 where
  pub read : r.read ≡ 0
  pub run : r.run ≡ run_at w r.run.row
  pub rows : RowsShown l (row_to_show l w.row) 0 d (record { row = r.run.row; written = r.written }) e

-- from the run r on the area l with the input bs, into the buffer d; p, l' and e are what it came to, the area and the buffer afterwards
pub record Advanced (r : Run) (l bs d : List ℕ) (p : Progress) (l' e : List ℕ) : Type 0 where
  pub text : List ℕ
  pub read : p.read ≤ length bs
  pub wrote : Wrote d 0 text e p.written
  pub inside : p.written ≤ length d
  pub row : p.run.row ≡ cond (nat_lt (length d) most_text) r.row (row_left (row_number p.run.row))
  pub goes : Advances (length d) (place_of r l bs) (placed p l' bs) text
