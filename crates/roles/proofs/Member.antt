-- What each set and each operation says of one role, and what that says of whole sets. Assumes nothing.
use mathlib.Core.Path.{◌≡◌, refl, ◌∙◌, subst, subst⁻¹}
use mathlib.Core.Bool.{not, ◌&&◌}
use mathlib.Core.List.{List, ◌∷◌}
use mathlib.Core.Logic.{◌↔◌, ◌⊎◌, inl, inr, ⊎_elim, ◌≢◌, by_cases}
use Prim.Native.Nat.{ℕ, zero, suc, ◌%◌, ◌^◌, ◌<◌}
use native.Mathlib.Nat.{mod-lt, div-eq_of_lt, lt_of_lt_of_le}
use native.Mathlib.Decide.{dec_lt}
use native.Mathlib.Omega.{arith}
use lib.Arith.{bin_ind}
use lib.Bits.{and_mask}
use lib.Pow.{pow_pos, pow_mono}
use lib.Dec.{T, T_not, not_T, eqb, eqb→eq, eqb_refl, ltb→lt, lt→ltb, eqb-suc-zero}
use Rattle.roles.specs.Sets.{most_roles, has, In, single, all_below, below64, joined, common, without, set_of, shares, part_of}
use Rattle.roles.proofs.Tests.{T?, T-or, T_and, T-ext}
use Rattle.roles.proofs.Digits.{two_pos, has-joined, has-common, has-without, has-zero, has-suc, has-empty, has-single, has-all_below, has-ext}

-- ---- one role

-- a role is in a set or is not
pub in? : (s r : ℕ) → In s r ⊎ ¬ (In s r)
in? s r = ⊎_elim (λ t. inl t) (λ t. inr (T_not (has s r) t)) (T? (has s r))

pub in-empty : (r : ℕ) → ¬ (In 0 r)
in-empty r = rw has-empty (λ h. h)

pub in-single : (r q : ℕ) → In (single r) q ↔ (r ≡ q)
in-single r q = rw has-single (eqb→eq r q, λ e. subst (λ (z : ℕ). T (eqb r z)) e (eqb_refl r))

pub in-all_below : (n r : ℕ) → In (all_below n) r ↔ (r < n)
in-all_below n r = rw has-all_below (ltb→lt r n, lt→ltb r n)

pub in-joined : (s t r : ℕ) → In (joined s t) r ↔ (In s r ⊎ In t r)
in-joined s t r = rw has-joined (T-or (has s r) (has t r))

pub in-common : (s t r : ℕ) → In (common s t) r ↔ (In s r × In t r)
in-common s t r = rw has-common (T_and (has s r) (has t r))

pub in_without : (s t r : ℕ) → In (without s t) r ↔ (In s r × ¬ (In t r))
in_without s t r = (
  (λ i. let p = both.0 (subst T (has-without s t r) i) in (p.0, T_not (has t r) p.1)),
  λ p. subst⁻¹ T (has-without s t r) (both.1 (p.0, not_T (has t r) p.1)),
)
  where
    both : T (has s r && not (has t r)) ↔ (T (has s r) × T (not (has t r)))
    both = T_and (has s r) (not (has t r))

pub in-set_of : (r : ℕ) (l : List ℕ) (q : ℕ) → In (set_of (r ∷ l)) q ↔ ((r ≡ q) ⊎ In (set_of l) q)
unfolding set_of
in-set_of r l q = let j = in-joined (single r) (set_of l) q in let o = in-single r q in (
  (λ i. ⊎_elim (λ a. inl (o.0 a)) (λ b. inr b) (j.0 i)),
  ⊎_elim (λ e. j.1 (inl (o.1 e))) (λ b. j.1 (inr b)),
)

-- ---- two sets

-- two sets with the same roles are equal
pub set-ext : (s t : ℕ) → ((r : ℕ) → In s r ↔ In t r) → s ≡ t
set-ext s t e = has-ext s t (λ r. T-ext (has s r) (has t r) (e r))

digit-in : (x : ℕ) → x < 2 → (x ≡ 0) ⊎ T (eqb x 1)
digit-in zero h = inl refl
digit-in (suc zero) h = inr tt
digit-in (suc (suc x)) h = absurd (omega arith)

-- a set that is not empty has a role
pub some_in : (s : ℕ) → s ≢ 0 → (r : ℕ) × In s r
some_in =
    bin_ind (λ (s : ℕ). s ≢ 0 → (r : ℕ) × In s r) (λ n. absurd (n refl))
    (λ s ih n. ⊎_elim
    (λ z. let p = ih (λ e. n (omega arith)) in (suc p.0, subst⁻¹ T (has-suc s p.0) p.1))
    (λ o. (0, subst⁻¹ T (has-zero s) o))
    (digit-in (s % 2) (mod-lt s two_pos)))

eqb-zero : (s : ℕ) → T (eqb s 0) ⊎ (T (not (eqb s 0)) × (s ≢ 0))
eqb-zero zero = inl tt
eqb-zero (suc s) = inr (rw (eqb-suc-zero s) tt, λ e. omega arith)

-- two sets share a role exactly when there is one in both
pub shares-law : (s t : ℕ) → T (shares s t) ↔ ((r : ℕ) × In s r × In t r)
unfolding shares
shares-law s t = (
  ⊎_elim
      (λ z h. absurd (T_not (eqb (common s t) 0) h z))
      (λ z h. let p = some_in (common s t) z.1 in
      let q = (in-common s t p.0).0 p.1 in (p.0, q.0, q.1))
      (eqb-zero (common s t)),
  λ p. not_T (eqb (common s t) 0) (λ z. in-empty p.0 (subst (λ (x : ℕ). In x p.0) (eqb→eq (common s t) 0 z) ((in-common s t p.0).1 (p.1, p.2)))),
)

-- s is part of t exactly when every role of s is in t
pub part_of-law : (s t : ℕ) → T (part_of s t) ↔ ((r : ℕ) → In s r → In t r)
unfolding part_of
part_of-law s t = (
  (λ z r h. ⊎_elim (λ i. i) (λ n. absurd (in-empty r (subst (λ (x : ℕ). In x r) (eqb→eq (without s t) 0 z) ((in_without s t r).1 (h, n))))) (in? t r)),
  λ f. subst⁻¹ (λ (x : ℕ). T (eqb x 0)) (set-ext (without s t) 0 (λ r. ((λ h. let p = (in_without s t r).0 h in absurd (p.1 (f r p.0))), (λ h. absurd (in-empty r h))))) tt,
)

-- and where it is not, some role of s is outside t
pub not_part-law : (s t : ℕ) → T (not (part_of s t)) → (r : ℕ) × In s r × ¬ (In t r)
unfolding part_of
not_part-law s t h =
    ⊎_elim (λ z. absurd (T_not (eqb (without s t) 0) h z))
    (λ z. let p = some_in (without s t) z.1 in let q = (in_without s t p.0).0 p.1 in (p.0, q.0, q.1))
    (eqb-zero (without s t))

-- ---- bounds

gone : (s r : ℕ) → s < 2 ^ r → ¬ (In s r)
unfolding has
gone s r h i = subst (λ (x : ℕ). T (eqb (x % 2) 1)) (div-eq_of_lt h) i

-- the roles of s below n are its lowest n digits
common-all_below : (s n : ℕ) → common s (all_below n) ≡ s % 2 ^ n
unfolding common all_below
common-all_below = and_mask

kept : (n s : ℕ) → ((r : ℕ) → In s r → r < n) → s ≡ s % 2 ^ n
kept n s f =
    set-ext s (common s (all_below n)) (λ r. ((λ i. (in-common s (all_below n) r).1 (i, (in-all_below n r).1 (f r i))), (λ i. ((in-common s (all_below n) r).0 i).0)))
    ∙ common-all_below s n

-- a set lies below n, as a number below 2 ^ n, exactly when its roles do
pub below-law : (n s : ℕ) → (s < 2 ^ n) ↔ ((r : ℕ) → In s r → r < n)
below-law n s = (
  (λ h r i. by_cases (dec_lt r n) (λ k. k) (λ k. absurd (gone s r (lt_of_lt_of_le h (pow_mono (omega arith))) i))),
  λ f. subst⁻¹ (λ (x : ℕ). x < 2 ^ n) (kept n s f) (mod-lt s (pow_pos n)),
)

pub in-below64 : (s r : ℕ) → In (below64 s) r ↔ (In s r × (r < most_roles))
unfolding below64
in-below64 s r = (
  (λ i. let p = (in-common s (all_below most_roles) r).0 (subst⁻¹ (λ (x : ℕ). In x r) (common-all_below s most_roles) i) in (p.0, (in-all_below most_roles r).0 p.1)),
  λ p. subst (λ (x : ℕ). In x r) (common-all_below s most_roles) ((in-common s (all_below most_roles) r).1 (p.0, (in-all_below most_roles r).1 p.1)),
)
