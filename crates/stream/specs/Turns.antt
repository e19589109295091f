-- What each part of a turn of the loop does.
--     Moved n z        what a read that is lent n bytes may answer: an error, or how many bytes it brought, at most n
--     unread f bs      what is not read yet of the piece bs
--     Within f bs      the places from which and up to which it is to be read lie in the piece
--     Busy f bs        a turn is to be taken, on a piece of a byte at least: nothing failed, and not all is answered
--     place_in f l bs  the place that the loop has come to, on the area l and in the piece bs
--     fed n closed f   the first n bytes of the piece are to be read
--     stopped s f      nothing of the piece is to be read, and the loop stands at s
--     failed, done     a read failed, and nothing more is answered; all is answered
--     Closed           at the end of the input a line without LF gets one, alone in the piece; without such a line all is answered
--     AfterRead got    by what a read answered: it failed, the input has ended, or its bytes are the piece
--     PieceRead        that, for some answer of a read and some bytes that it left in the piece
--     stand_after z    after a write that answered z the loop goes on, unless it failed
--     after_write z    the run goes on from where the piece is answered to, and has failed unless all was written
--     PieceAnswered    the unread part was handed to `advance`, and what that wrote to a write with some answer
--     Turned           what is unread is answered; idle, a piece is read; behind the end of the input none is
use Rattle.std.specs.Prelude.{◌≡◌, ⊤, Bool, true, false, List, ℕ, zero, suc, ◌+◌, ◌-◌, ◌≤◌, Ok, Err, length, take, drop, set}
use Rattle.std.specs.declared.result.Result.{Result}
use Rattle.std.specs.declared.io.Error.{Error}
use Rattle.text.specs.Ascii.{lf}
use Rattle.split.specs.Split.{is_none, held_in}
use Rattle.lines.specs.Run.{Place, place_of, Advanced}
use Rattle.lines.specs.Program.{idle}
use Rattle.lines.specs.declared.Progress.{Progress}
use Rattle.stream.specs.declared.Flow.{Flow}
use Rattle.stream.specs.declared.Stand.{Stand}
use Rattle.stream.specs.declared.Stand.TheVariants.{Running, Failed, Done}

abbrev pub Moved : ℕ → Result ℕ Error → Type 0
Moved n (Ok k) = k ≤ n
Moved n (Err why) = ⊤

abbrev pub unread : Flow → List ℕ → List ℕ
unread f bs = take (f.to - f.from) (drop f.from bs)

pub record Within (f : Flow) (bs : List ℕ) : Type 0 where
  pub from : f.from ≤ f.to
  pub to : f.to ≤ length bs

pub record Busy (f : Flow) (bs : List ℕ) : Type 0 where
  pub within : Within f bs
  pub some : 1 ≤ length bs
  pub running : f.stand ≡ Running

abbrev pub place_in : Flow → List ℕ → List ℕ → Place
place_in f l bs = place_of f.run l (unread f bs)

-- ---- a piece read

abbrev pub fed : ℕ → Bool → Flow → Flow
fed n closed f = record { run = f.run; from = 0; to = n; closed = closed; stand = Running }

abbrev pub stopped : Stand → Flow → Flow
stopped s f = record { run = f.run; from = 0; to = 0; closed = f.closed; stand = s }

abbrev pub failed : Flow → Flow
failed f = stopped Failed f

abbrev pub done : Flow → Flow
done f = stopped Done f

pub record Closed (f : Flow) (bs : List ℕ) (r : Flow) (bs' : List ℕ) : Type 0 where
  pub line : is_none (held_in f.run.line) ≡ false → (r ≡ fed 1 true f) × (bs' ≡ set bs 0 lf)
  pub no_line : is_none (held_in f.run.line) ≡ true → (r ≡ done f) × (bs' ≡ bs)

abbrev pub AfterRead : Result ℕ Error → Flow → List ℕ → Flow → List ℕ → Type 0
AfterRead (Err why) f bs r bs' = (r ≡ failed f) × (bs' ≡ bs)
AfterRead (Ok zero) f bs r bs' = Closed f bs r bs'
AfterRead (Ok (suc k)) f bs r bs' = (r ≡ fed (suc k) false f) × (bs' ≡ bs)

pub record PieceRead (f : Flow) (bs : List ℕ) (r : Flow) (bs' : List ℕ) : Type 0 where
  pub got : Result ℕ Error
  pub given : List ℕ
  pub moved : Moved (length bs) got
  pub long : length given ≡ length bs
  pub after : AfterRead got f given r bs'

-- ---- a piece answered

abbrev pub stand_after : Result (Unit {0}) Error → Stand
stand_after (Ok x) = Running
stand_after (Err why) = Failed

abbrev pub after_write : Result (Unit {0}) Error → Flow → Progress → Flow
after_write z f p = record { run = p.run; from = f.from + p.read; to = f.to; closed = f.closed; stand = stand_after z }

pub record PieceAnswered (f : Flow) (l bs d : List ℕ) (r : Flow) (l' e : List ℕ) : Type 0 where
  pub progress : Progress
  pub taken : Result (Unit {0}) Error
  pub advanced : Advanced f.run l (unread f bs) d progress l' e
  pub after : r ≡ after_write taken f progress

-- ---- a turn

pub record Turned (f : Flow) (l bs d : List ℕ) (r : Flow) (l' bs' e : List ℕ) : Type 0 where
  pub answers : idle (place_in f l bs) ≡ false → PieceAnswered f l bs d r l' e × (bs' ≡ bs)
  pub reads : idle (place_in f l bs) ≡ true → f.closed ≡ false → PieceRead f bs r bs' × (l' ≡ l) × (e ≡ d)
  pub closes : idle (place_in f l bs) ≡ true → f.closed ≡ true → Closed f bs r bs' × (l' ≡ l) × (e ≡ d)
