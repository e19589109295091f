-- A body tested in two halves, one for few open sets and one for many: what they say together. Assumes nothing.
use mathlib.Core.Path.{◌≡◌, refl, sym, ap, ◌∙◌, subst⁻¹}
use mathlib.Core.Bool.{Bool, true, false, not, ◌&&◌, ◌||◌, or-true, or-false, and_comm}
use mathlib.Core.List.{List}
use Prim.Native.Nat.{ℕ, ◌+◌, ◌-◌, ◌≤◌, ◌<◌}
use native.Mathlib.Omega.{arith}
use borrow.Author.Tests.{lt-ltb, le-ltb, le-leb, lt-leb, ne_eqb}
use lib.Dec.{T, eqb, ltb, leb, leb→le}
use lib.ListN.{take, drop}
use Rattle.words.specs.Words.{all_zero}
use Rattle.meaning.specs.Rows.{most_opens}
use Rattle.opens.specs.Opens.{opens_good, places_good, body_good, few_opens}
use Rattle.opens.proofs.OpensLaws.{places-tests}

-- ---- the arms of each half

module _ (m d at : ℕ) (ws : List ℕ) where
  abbrev places : List ℕ
  places = take most_opens (drop at ws)

  -- no open set: something must be denied
  pub none-arm : {c : ℕ} {zeros : Bool} → c ≡ 0 → zeros ≡ all_zero places → (zeros && not (eqb d 0)) ≡ (ltb few_opens c || body_good m d c places)
  unfolding body_good places_good opens_good
  none-arm {c} {zeros} h e = rw (h, e, or-false (not (eqb d 0))) (and_comm (all_zero places) (not (eqb d 0)))

  -- k open sets
  module _ (k : ℕ) (some : 0 < k) {zeros opens : Bool} (ez : zeros ≡ all_zero (take (most_opens - k) (drop (at + k) ws))) (eo : opens ≡ opens_good m d (take k (drop at ws))) where
    body-made : k ≤ most_opens → (zeros && opens) ≡ body_good m d k places
    unfolding body_good
    body-made h =
        places-tests m d k at ws h ez eo
        ∙ sym (ap (λ (b : Bool). (not (eqb d 0) || not b) && places_good m d k places) (ne_eqb k 0 (λ z. omega arith)) ∙ ap (λ (b : Bool). b && places_good m d k places) (or-true (not (eqb d 0))))

    pub few-arm : {c : ℕ} → c ≡ k → k ≤ few_opens → (zeros && opens) ≡ (ltb few_opens c || body_good m d c places)
    few-arm h few = body-made (omega arith) ∙ sym (ap (λ (n : ℕ). ltb few_opens n || body_good m d n places) h ∙ ap (λ (b : Bool). b || body_good m d k places) (le-ltb few_opens k few))

    pub many-arm : {c : ℕ} → c ≡ k → few_opens < k → k ≤ most_opens → (zeros && opens) ≡ (leb c few_opens || body_good m d c places)
    many-arm h many most = body-made most ∙ sym (ap (λ (n : ℕ). leb n few_opens || body_good m d n places) h ∙ ap (λ (b : Bool). b || body_good m d k places) (lt-leb k few_opens many))

  -- the other half looks at it
  pub not-few : {c : ℕ} → few_opens < c → true ≡ (ltb few_opens c || body_good m d c places)
  not-few {c} h = sym (ap (λ (b : Bool). b || body_good m d c places) (lt-ltb few_opens c h))

  pub not-many : {c : ℕ} → c ≤ few_opens → true ≡ (leb c few_opens || body_good m d c places)
  not-many {c} h = sym (ap (λ (b : Bool). b || body_good m d c places) (le-leb c few_opens h))

-- ---- both halves

-- where one half fails, the body is not good
pub half-fails : (b good : Bool) → false ≡ (b || good) → good ≡ false
half-fails true good e = absurd (subst⁻¹ T e tt)
half-fails false good e = sym e

-- where both pass, it is
pub halves-pass : (c : ℕ) (good : Bool) → true ≡ (ltb few_opens c || good) → true ≡ (leb c few_opens || good) → good ≡ true
halves-pass c good few many = go (leb c few_opens) refl many
  where
    go : (b : Bool) → leb c few_opens ≡ b → true ≡ (b || good) → good ≡ true
    go false e q = sym q
    go true e q = sym (few ∙ ap (λ (x : Bool). x || good) (le-ltb few_opens c (leb→le c few_opens (subst⁻¹ T e tt))))
