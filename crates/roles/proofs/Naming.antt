-- The lowest role of a set, and the part test that names one: 64 exactly where a set is part of another. Assumes nothing.
use mathlib.Core.Path.{◌≡◌, refl, sym, ap, ◌∙◌, subst, subst⁻¹}
use mathlib.Core.Bool.{Bool, true, false, cond}
use mathlib.Core.Logic.{◌≢◌, ⊎_elim, by_cases}
use Prim.Native.Nat.{ℕ, zero, suc, ◌≤◌, ◌<◌, ◌/◌, ◌%◌}
use native.Mathlib.Nat.{mod-lt}
use native.Mathlib.Decide.{dec_lt}
use native.Mathlib.Omega.{arith}
use borrow.Author.Tests.{eq-eqb}
use lib.Count.{count_trailing_zeros, under, trailing_le}
use lib.Dec.{T, not_T, eqb, eqb→eq}
use Rattle.std.specs.Prelude.{Option, None, Some}
use Rattle.roles.specs.Sets.{most_roles, In, without, part_of, Below, lowest, outside, role_named, Names}
use Rattle.roles.proofs.Tests.{T_true, T_false, T-ext}
use Rattle.roles.proofs.Digits.{two_pos, has-zero, has-suc}
use Rattle.roles.proofs.Member.{in?, in_without, part_of-law, below-law}

-- ---- the lowest of the first k roles

-- the lowest digit decides, or the rest does
one-digit : (k s : ℕ) → (P : ℕ → Type 0) → (s % 2 ≡ 0 → P (suc (count_trailing_zeros k (s / 2)))) → (s % 2 ≡ 1 → P 0) → P (count_trailing_zeros (suc k) s)
unfolding count_trailing_zeros
one-digit k s P even odd = go (s % 2) refl (mod-lt s two_pos)
  where
    go : (d : ℕ) → s % 2 ≡ d → d < 2 → P (under d (count_trailing_zeros k (s / 2)))
    go zero e h = even e
    go (suc zero) e h = odd e
    go (suc (suc d)) e h = absurd (omega arith)

-- it is in the set, where there is one
trailing-in : (k s : ℕ) → count_trailing_zeros k s < k → In s (count_trailing_zeros k s)
trailing-in zero s h = absurd (omega arith)
trailing-in (suc k) s h =
    one-digit k s (λ (r : ℕ). r < suc k → In s r)
    (λ e b. subst⁻¹ T (has-suc s (count_trailing_zeros k (s / 2))) (trailing-in k (s / 2) (omega arith)))
    (λ e b. subst⁻¹ T (has-zero s ∙ eq-eqb (s % 2) 1 e) tt) h

-- and none below it is
trailing-first : (k s r : ℕ) → r < count_trailing_zeros k s → ¬ (In s r)
trailing-first zero s r h = absurd (let z = trailing_le 0 s in omega arith)
trailing-first (suc k) s r h = one-digit k s (λ (t : ℕ). r < t → ¬ (In s r)) (λ e b. even r e b (trailing-first k (s / 2))) (λ e b. absurd (omega arith)) h
  where
    even : (q : ℕ) → s % 2 ≡ 0 → q < suc (count_trailing_zeros k (s / 2)) → ((x : ℕ) → x < count_trailing_zeros k (s / 2) → ¬ (In (s / 2) x)) → ¬ (In s q)
    even zero e b f i = let one = eqb→eq (s % 2) 1 (subst T (has-zero s) i) in absurd (omega arith)
    even (suc q) e b f i = f q (omega arith) (subst T (has-suc s q) i)

-- ---- the part test

pub outside-le : (s t : ℕ) → outside s t ≤ most_roles
unfolding outside lowest
outside-le s t = trailing_le most_roles (without s t)

module _ (s t : ℕ) where
  named : outside s t < most_roles → In s (outside s t) × ¬ (In t (outside s t))
  unfolding outside lowest
  named h = (in_without s t (outside s t)).0 (trailing-in most_roles (without s t) h)

  first : (q : ℕ) → q < outside s t → In s q → In t q
  unfolding outside lowest
  first q h i = ⊎_elim (λ j. j) (λ j. absurd (trailing-first most_roles (without s t) q h ((in_without s t q).1 (i, j)))) (in? t q)

  -- a set of the roles 0 to 63
  module _ (b : Below most_roles s) where
    none-outside : outside s t ≡ most_roles → T (part_of s t)
    none-outside e = (part_of-law s t).1 (λ r i. first r (let k = (below-law most_roles s).0 b r i in omega arith) i)

    part-named : T (part_of s t) → outside s t ≡ most_roles
    part-named p = by_cases (dec_lt (outside s t) most_roles)
        (λ h. let m = named h in absurd (m.1 ((part_of-law s t).0 p (outside s t) m.0)))
        (λ h. let le = outside-le s t in omega arith)

    pub outside-names : Names s t (outside s t)
    outside-names = record {
      part = (none-outside, part-named);
      named = λ n. named (let le = outside-le s t in omega arith);
      first = first;
    }

-- ---- what callers of the test use: of r, which is the role that it named

module _ (s t : ℕ) (b : Below most_roles s) {r : ℕ} (e : r ≡ outside s t) where
  pub is-part : r ≡ most_roles → part_of s t ≡ true
  is-part h = T_true (part_of s t) (none-outside s t b (sym e ∙ h))

  pub is-no-part : r ≢ most_roles → part_of s t ≡ false
  is-no-part h = T_false (part_of s t) (not_T (part_of s t) (λ p. h (e ∙ part-named s t b p)))

  pub part-test : eqb r most_roles ≡ part_of s t
  part-test = T-ext (eqb r most_roles) (part_of s t) (
    (λ h. none-outside s t b (sym e ∙ eqb→eq r most_roles h)),
    λ p. subst⁻¹ T (eq-eqb r most_roles (e ∙ part-named s t b p)) tt,
  )

-- ---- the test's answer as code gives it: none where s is part of t

module _ (s t : ℕ) (b : Below most_roles s) where
  pub named-is : role_named (outside s t) ≡ cond (part_of s t) None (Some (outside s t))
  unfolding role_named
  named-is = ap (λ (x : Bool). cond x None (Some (outside s t))) (part-test s t b refl)

  told : {o : Option ℕ} → o ≡ role_named (outside s t) → o ≡ cond (part_of s t) None (Some (outside s t))
  told e = e ∙ named-is

  pub none-part : None ≡ role_named (outside s t) → part_of s t ≡ true
  none-part e = go (part_of s t) (told e)
    where
      go : (x : Bool) → None ≡ cond x None (Some (outside s t)) → x ≡ true
      go true h = refl
      go false h = cc

  pub named-no-part : {r : ℕ} → Some r ≡ role_named (outside s t) → (part_of s t ≡ false) × (r ≡ outside s t)
  named-no-part {r} e = go (part_of s t) (told e)
    where
      go : (x : Bool) → Some r ≡ cond x None (Some (outside s t)) → (x ≡ false) × (r ≡ outside s t)
      go true h = cc
      go false h = (refl, cc)
