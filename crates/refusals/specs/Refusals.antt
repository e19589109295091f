-- Refusals as data: a call is a list of them in their order, what a refusal gives, and what is given where none applies.
--     Refusal, refusal a b      the number a, given where the test b passes
--     refuse rs f o             f of the first number whose test passes, o where none does
--     Ground, ground a A        the number a, given where A holds
--     Exactly a gs otherwise    a is the number of the first ground that holds, and of no other; where none holds, it is as `otherwise` says
use Rattle.std.specs.Prelude.{◌≡◌, Bool, cond, List, [], ◌∷◌, ◌↔◌, ℕ}

pub record Refusal : Type 0 where
  pub number : ℕ
  pub applies : Bool

abbrev pub refusal : ℕ → Bool → Refusal
refusal a b = record { number = a; applies = b }

abbrev pub refuse : {A : Type 0} → List Refusal → (ℕ → A) → A → A
refuse [] f o = o
refuse (r ∷ rs) f o = cond r.applies (f r.number) (refuse rs f o)

pub record Ground : Type 1 where
  pub number : ℕ
  pub holds : Type 0

abbrev pub ground : ℕ → Type 0 → Ground
ground a A = record { number = a; holds = A }

abbrev pub Exactly : ℕ → List Ground → (ℕ → Type 0) → Type 0
Exactly a [] otherwise = otherwise a
Exactly a (g ∷ gs) otherwise = ((a ≡ g.number) ↔ g.holds) × (¬ g.holds → Exactly a gs otherwise)
