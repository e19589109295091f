-- The answers with their numbers, and what a call's contract says.
--     refusal_number r    the number of a refusal
--     done_number         that of a call that gives nothing more
--     kept_number k       that of what became of an event
--     verdict_number v    that of a decision
--     number_of f r       the number of an answer: that of the refusal, or what f says of what is given
--     Gives o a l         the number a of the answer and the bytes l afterwards are those of o
--     decided_of d        what decide gives, its answer as a number; a refusal names no role
use Rattle.std.specs.Prelude.{◌≡◌, List, ℕ, ⊤, Result, Ok, Err}
use Rattle.meaning.specs.Rows as meaning
use Rattle.rows.specs.Stored as rows
use Rattle.rows.specs.declared.Verdict.{Verdict}
use Rattle.calls.specs.Calls.{Out}
use Rattle.calls.specs.declared.Refusal.{Refusal}
use Rattle.calls.specs.declared.Refusal.TheVariants.{BadArea, BadRoleCount, NoPermission, UnknownRole, BadVerdict, Contradiction, Full, Late, Ahead}
use Rattle.calls.specs.declared.Kept.{Kept}
use Rattle.calls.specs.declared.Kept.TheVariants.{Recorded, Forgotten}

abbrev pub refusal_number : Refusal → ℕ
refusal_number BadArea = 1
refusal_number BadRoleCount = 2
refusal_number NoPermission = 3
refusal_number UnknownRole = 4
refusal_number BadVerdict = 5
refusal_number Contradiction = 6
refusal_number Full = 7
refusal_number Late = 13
refusal_number Ahead = 14

abbrev pub done_number : ⊤ → ℕ
done_number x = 0

abbrev pub kept_number : Kept → ℕ
kept_number Recorded = 0
kept_number Forgotten = 8

abbrev pub verdict_number : Verdict → ℕ
verdict_number v = (rows.decided_of v).answer

abbrev pub number_of : {A : Type 0} → (A → ℕ) → Result A Refusal → ℕ
number_of f (Ok x) = f x
number_of f (Err r) = refusal_number r

pub record Gives (o : Out) (a : ℕ) (l : List ℕ) : Type 0 where
  pub answer : a ≡ o.answer
  pub area : l ≡ o.area

abbrev pub decided_of : Result Verdict Refusal → meaning.Decided
decided_of (Ok v) = rows.decided_of v
decided_of (Err r) = meaning.bare (refusal_number r)
