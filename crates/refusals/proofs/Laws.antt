-- Each number exactly on its ground, for every call, whatever it gives. Assumes nothing.
--     lacks a rs       no refusal of the list has the number a
--     distinct rs      no two of the list have the same number
--     Tests rs gs      the refusals have the numbers of the grounds, and each test passes exactly where its ground holds
use mathlib.Core.Path.{◌≡◌, refl, sym, ◌∙◌}
use mathlib.Core.Bool.{Bool, true, false, not, cond, ◌&&◌}
use mathlib.Core.List.{List, [], ◌∷◌}
use mathlib.Core.Logic.{◌↔◌, ◌≢◌}
use Prim.Native.Nat.{ℕ}
use lib.Dec.{T, eqb}
use Rattle.roles.proofs.Tests.{T_and, unlike}
use Rattle.refusals.specs.Refusals.{Refusal, refuse, Ground, Exactly}

abbrev pub lacks : ℕ → List Refusal → Bool
lacks a [] = true
lacks a (r ∷ rs) = not (eqb r.number a) && lacks a rs

abbrev pub distinct : List Refusal → Bool
distinct [] = true
distinct (r ∷ rs) = lacks r.number rs && distinct rs

abbrev pub Tests : List Refusal → List Ground → Type 0
Tests [] [] = Unit {0}
Tests [] (g ∷ gs) = ⊥
Tests (r ∷ rs) [] = ⊥
Tests (r ∷ rs) (g ∷ gs) = (r.number ≡ g.number) × (T r.applies ↔ g.holds) × Tests rs gs

-- a part of what is given is that part of the refusal, or of what is left
pub refuse-part : {A B : Type 0} (g : A → B) (rs : List Refusal) (f : ℕ → A) (o : A) → g (refuse rs f o) ≡ refuse rs (λ a. g (f a)) (g o)
refuse-part g [] f o = refl
refuse-part {A} {B} g (r ∷ rs) f o = go r.applies (refuse-part g rs f o)
  where
    go : (b : Bool) → g (refuse rs f o) ≡ refuse rs (λ a. g (f a)) (g o) → g (cond b (f r.number) (refuse rs f o)) ≡ cond b (g (f r.number)) (refuse rs (λ a. g (f a)) (g o))
    go true q = refl
    go false q = q

module _ {A : Type 0} (f : ℕ → A) (o : A) where
  -- what every refusal has, and what is given where none applies
  pub refuse-has : (P : A → Type 0) (rs : List Refusal) → ((a : ℕ) → P (f a)) → P o → P (refuse rs f o)
  refuse-has P [] h k = k
  refuse-has P (r ∷ rs) h k = go r.applies (refuse-has P rs h k)
    where
      go : (b : Bool) → P (refuse rs f o) → P (cond b (f r.number) (refuse rs f o))
      go true q = h r.number
      go false q = q

  module _ (answer : A → ℕ) (says : (a : ℕ) → answer (f a) ≡ a) where
    -- a number that is neither on the list nor answered where no refusal applies is never answered
    never : (a : ℕ) (rs : List Refusal) → T (lacks a rs) → answer o ≢ a → answer (refuse rs f o) ≢ a
    never a [] t d = d
    never a (r ∷ rs) t d =
        let q = (T_and (not (eqb r.number a)) (lacks a rs)).0 t in
        go r.applies q.0 (never a rs q.1 d)
      where
        go : (b : Bool) → T (not (eqb r.number a)) → answer (refuse rs f o) ≢ a → answer (cond b (f r.number) (refuse rs f o)) ≢ a
        go true u d = λ e. unlike u (sym (says r.number) ∙ e)
        go false u d = d

    pub refuse-exactly : (otherwise : ℕ → Type 0) (rs : List Refusal) (gs : List Ground) → Tests rs gs → T (distinct rs) → T (lacks (answer o) rs) → otherwise (answer o)
        → Exactly (answer (refuse rs f o)) gs otherwise
    refuse-exactly otherwise [] [] x t u k = k
    refuse-exactly otherwise [] (g ∷ gs) x t u k = absurd x
    refuse-exactly otherwise (r ∷ rs) [] x t u k = absurd x
    refuse-exactly otherwise (r ∷ rs) (g ∷ gs) x t u k =
        let q = (T_and (lacks r.number rs) (distinct rs)).0 t in
        let v = (T_and (not (eqb r.number (answer o))) (lacks (answer o) rs)).0 u in
        go r.applies x.1 (never r.number rs q.0 (λ e. unlike v.0 (sym e))) (refuse-exactly otherwise rs gs x.2 q.1 v.1 k)
      where
        go : (b : Bool) → T b ↔ g.holds → answer (refuse rs f o) ≢ r.number → Exactly (answer (refuse rs f o)) gs otherwise
            → Exactly (answer (cond b (f r.number) (refuse rs f o))) (g ∷ gs) otherwise
        go true i d y = (((λ e. i.0 tt), (λ h. says r.number ∙ x.0)), λ h. absurd (h (i.0 tt)))
        go false i d y = (((λ e. absurd (d (e ∙ sym x.0))), (λ h. absurd (i.1 h))), λ h. y)
