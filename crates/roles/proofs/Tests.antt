-- Tests and the facts that they say. Assumes nothing.
use mathlib.Core.Path.{◌≡◌, refl, sym, ap, ◌∙◌, subst}
use mathlib.Core.Bool.{Bool, true, false, not, ◌&&◌, ◌||◌}
use mathlib.Core.Logic.{◌↔◌, ◌⊎◌, inl, inr, ⊎_elim}
use Prim.Native.Nat.{ℕ}
use native.Mathlib.Decide.{dec_lt}
use native.Mathlib.Omega.{arith}
use borrow.Author.Tests.{le-leb, lt-leb, lt-ltb, le-ltb}
use lib.Dec.{T, T_not, not_T, eqb, eqb_refl, ltb, leb}

-- a test passes or fails
pub T? : (b : Bool) → T b ⊎ T (not b)
T? true = inl tt
T? false = inr tt

pub T-or : (a b : Bool) → T (a || b) ↔ (T a ⊎ T b)
T-or true b = ((λ h. inl tt), (λ h. tt))
T-or false b = ((λ h. inr h), ⊎_elim (λ h. absurd h) (λ h. h))

pub T_and : (a b : Bool) → T (a && b) ↔ (T a × T b)
T_and true b = ((λ h. (tt, h)), (λ h. h.1))
T_and false b = ((λ h. absurd h), (λ h. h.0))

pub not-or : (a b : Bool) → T (not (a || b)) → T (not a) × T (not b)
not-or true b h = absurd h
not-or false b h = (tt, h)

pub not-and : (a b : Bool) → T (not (a && b)) → T (not a) ⊎ T (not b)
not-and true b h = inr h
not-and false b h = inl tt

pub T-ext : (a b : Bool) → T a ↔ T b → a ≡ b
T-ext true true e = refl
T-ext true false e = absurd (e.0 tt)
T-ext false true e = absurd (e.1 tt)
T-ext false false e = refl

pub T_true : (b : Bool) → T b → b ≡ true
T_true b h = T-ext b true ((λ t. tt), (λ t. h))

pub T_false : (b : Bool) → T (not b) → b ≡ false
T_false b h = T-ext b false (T_not b h, (λ t. absurd t))

-- a test fails exactly where what it says does not hold
pub not_test : (b : Bool) (A : Type 0) → T b ↔ A → T (not b) ↔ ¬ A
not_test b A i = ((λ t x. T_not b t (i.1 x)), λ h. not_T b (λ t. h (i.0 t)))

-- two numbers that a test tells apart are not equal
pub unlike : {a b : ℕ} {A : Type 0} → T (not (eqb a b)) → a ≡ b → A
unlike {a} {b} t e = absurd (T_not (eqb a b) t (subst (λ (z : ℕ). T (eqb a z)) e (eqb_refl a)))

pub leb-not : (a b : ℕ) → leb a b ≡ not (ltb b a)
leb-not a b = elim (dec_lt b a) [
  | yes h ↦ lt-leb a b h ∙ sym (ap not (lt-ltb b a h))
  | no h ↦ le-leb a b (omega arith) ∙ sym (ap not (le-ltb b a (omega arith)))
]
