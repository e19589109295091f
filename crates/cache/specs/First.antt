-- Refusals one after another.
--     first rs         the number of the first refusal of rs that applies; 0 where none does
--     Asked rs s r     r is the first of the refusals rs that applies, or the session s where none does
use Rattle.std.specs.Prelude.{◌≡◌, List, ℕ, Result, Ok, Err}
use Rattle.roles.specs.declared.RoleSet.{RoleSet}
use Rattle.refusals.specs.Refusals as refusals
use Rattle.refusals.specs.Refusals.{refuse}
use Rattle.calls.specs.declared.Refusal.{Refusal}
use Rattle.calls.specs.Answers.{refusal_number}

abbrev pub first : List refusals.Refusal → ℕ
first rs = refuse rs (λ a. a) 0

abbrev pub Asked : List refusals.Refusal → ℕ → Result RoleSet Refusal → Type 0
Asked rs s (Ok x) = (first rs ≡ 0) × (x.bits ≡ s)
Asked rs s (Err r) = first rs ≡ refusal_number r
