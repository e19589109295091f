-- The rows of an area, handed out one after another.
--     walked l           the rows that are handed out: those of a good area, none of a bad one
--     first_row l        the number of the first row: of a bad area one that no row has
--     given e            the row e, handed out
--     handed l i         what is handed out at number i: its row, or none
--     next_number l i    the number after that: without a row the number stays
--     number_after k l   the number after k rows were asked for, from the start on
--     Walkable l i       row i may be asked for: i is 128 or more, or the area is good
--     start_answer l     the answer to a start, as a number: Rules, The lent area
--     begun l            the number of the first row; a bad area has none, which is answer 1
--     started a          the walker of the lent area a at its first row; of a bad area there is none
--     go_on_at l i       the number that a walk goes on with at i: of a bad area one that no row has
--     resumed a i        the walker of the lent area a that goes on at i
--     moved w            the walker w after a row was asked for
--     Moves w r v        asked for a row, the walker w hands out r and becomes v
--     rows_ahead w       how many rows the walker w hands out from now on
use Rattle.std.specs.Prelude.{◌≡◌, cond, List, [], ℕ, zero, suc, ◌+◌, ◌-◌, ◌<◌, ltb, length, Option, Some, None, Result, Ok, Err}
use Rattle.std.specs.Iterator.{Count, at_most}
use Rattle.area.specs.Layout.{most_rows, good_bytes}
use Rattle.area.specs.State.{Entry}
use Rattle.rows.specs.Stored.{stored_row}
use Rattle.table.specs.Table.{Sound, rows_in, nth}
use Rattle.walker.specs.declared.Handed.{Handed}
use Rattle.walker.specs.declared.BadArea.{BadArea}
use Rattle.std.specs.Borrow.{Bor}
use Rattle.walker.specs.declared.Walker.{Walker}

unfoldable pub walked : List ℕ → List Entry
walked l = cond (good_bytes l) (rows_in l) []

unfoldable pub first_row : List ℕ → ℕ
first_row l = cond (good_bytes l) 0 most_rows

abbrev pub given : Entry → Handed
given e = record { permission = e.permission; row = stored_row e.row }

unfoldable pub handed : List ℕ → ℕ → Option Handed
handed l i = cond (ltb i (length (walked l))) (Some (given (nth i (walked l)))) None

unfoldable pub next_number : List ℕ → ℕ → ℕ
next_number l i = cond (ltb i (length (walked l))) (i + 1) i

unfoldable pub number_after : ℕ → List ℕ → ℕ
number_after zero l = first_row l
number_after (suc k) l = next_number l (number_after k l)

abbrev pub Walkable : List ℕ → ℕ → Type 0
Walkable l i = i < most_rows → Sound l

unfoldable pub start_answer : List ℕ → ℕ
start_answer l = cond (good_bytes l) 0 1

abbrev pub bad_area : BadArea
bad_area = record {}

unfoldable pub begun : List ℕ → Result ℕ BadArea
begun l = cond (good_bytes l) (Ok 0) (Err bad_area)

unfoldable pub started : Bor (List ℕ) → Result Walker BadArea
started a = cond (good_bytes a.now) (Ok (record { area = a; next = 0 })) (Err bad_area)

unfoldable pub go_on_at : List ℕ → ℕ → ℕ
go_on_at l i = cond (good_bytes l) i most_rows

abbrev pub resumed : Bor (List ℕ) → ℕ → Walker
resumed a i = record { area = a; next = go_on_at a.now i }

abbrev pub moved : Walker → Walker
moved w = record { area = w.area; next = next_number w.area.now w.next }

abbrev pub Moves : Walker → Option Handed → Walker → Type 0
Moves w r v = (r ≡ handed w.area.now w.next) × (v ≡ moved w)

abbrev pub rows_ahead : Walker → Count
rows_ahead w = at_most (length (walked w.area.now) - w.next)
