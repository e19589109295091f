-- What a reader of texts can rely on. Assumes nothing.
use mathlib.Core.Path.{◌≡◌, refl, ap, ◌∙◌}
use mathlib.Core.Bool.{false}
use mathlib.Core.List.{List, ◌++◌}
use mathlib.Core.Logic.{◌↔◌}
use Prim.Native.Nat.{ℕ, ◌^◌, ◌≤◌, ◌<◌}
use native.Mathlib.Omega.{arith}
use lib.ListN.{length}
use Rattle.text.specs.Ascii.{space, lf, Lacks}
use Rattle.text.specs.Number.{number_text, found, is_digit, digit_next, read_number}
use Rattle.text.specs.Set.{set_text, read_set, Ends}
use Rattle.text.proofs.NumberLaws.{number-back, number-only}
use Rattle.text.proofs.SetLaws.{set_back, set-only}
use Rattle.text.proofs.Shape.{length-number, length-set-text, number-lacks, set-lacks}

-- a text reads as the number v exactly when it is the text of v, within the limit, and no digit follows
pub reads-number : (limit : ℕ) (s : List ℕ) (v : ℕ) (rest : List ℕ)
    → (read_number limit s ≡ found v rest) ↔ ((s ≡ number_text v ++ rest) × (v ≤ limit) × (digit_next rest ≡ false))
reads-number limit s v rest = (
  (λ e. let p = number-only limit s v rest e in (p.same, p.small, p.ends)),
  λ p. ap (read_number limit) p.0 ∙ number-back limit v rest p.1 p.2,
)

-- where neither a digit nor a comma follows, a text reads as the set v exactly when it is the text of v, a set of roles below 64
pub reads-set : (t : List ℕ) (v : ℕ) (rest : List ℕ) → Ends rest → (read_set t ≡ found v rest) ↔ ((t ≡ set_text v ++ rest) × (v < 2 ^ 64))
reads-set t v rest e = (set-only t v rest, λ p. ap read_set p.0 ∙ set_back v rest p.1 e)

-- a number of 32 bits has at most 10 digits, one of 64 bits at most 20
pub number32-length : (v : ℕ) → v < 2 ^ 32 → length (number_text v) ≤ 10
number32-length v h = length-number 9 v (omega arith)

pub number64-length : (v : ℕ) → v < 2 ^ 64 → length (number_text v) ≤ 20
number64-length v h = length-number 19 v (omega arith)

-- a set has at most 181 bytes
pub set-length : (s : ℕ) → length (set_text s) ≤ 181
set-length = length-set-text

-- no field's text holds what parts fields or ends lines
pub number-lacks-space : (v : ℕ) → Lacks space (number_text v)
unfolding is_digit
number-lacks-space v = number-lacks space v refl

pub number-lacks-lf : (v : ℕ) → Lacks lf (number_text v)
unfolding is_digit
number-lacks-lf v = number-lacks lf v refl

pub set-lacks-space : (s : ℕ) → Lacks space (set_text s)
unfolding is_digit
set-lacks-space s = set-lacks space s refl (λ e. omega arith) (λ e. omega arith)

pub set-lacks-lf : (s : ℕ) → Lacks lf (set_text s)
unfolding is_digit
set-lacks-lf s = set-lacks lf s refl (λ e. omega arith) (λ e. omega arith)
