-- Laws of whole sets, each proved role by role, one chapter for each operation. Assumes nothing.
use mathlib.Core.Path.{◌≡◌, refl, ap, ◌∙◌, subst, subst⁻¹}
use mathlib.Core.Logic.{◌↔◌, ◌≢◌, ◌⊎◌, inl, inr, ⊎_elim, by_cases}
use Prim.Native.Nat.{ℕ, ◌^◌, ◌≤◌, ◌<◌}
use native.Mathlib.Nat.{mod-eq_of_lt, lt_of_lt_of_le, le_of_lt}
use native.Mathlib.Decide.{dec_lt}
use native.Mathlib.Omega.{arith}
use lib.Bits.{and_le_r}
use lib.Dec.{T, ltb, leb, leb→le, le→leb, ltb→lt, lt→ltb}
use lib.Pow.{pow-lt, pow_mono, ones_lt}
use Rattle.roles.specs.Sets.{most_roles, In, single, all_below, below64, joined, common, without, shares, part_of}
use Rattle.roles.proofs.Tests.{T-ext}
use Rattle.roles.proofs.Member.{in-empty, in-single, in-all_below, in-joined, in-common, in_without, set-ext, shares-law, part_of-law, below-law, in-below64}

-- ---- empty

pub in⇒nonempty : (s r : ℕ) → In s r → s ≢ 0
in⇒nonempty s r i e = in-empty r (subst (λ (x : ℕ). In x r) e i)

-- ---- single, all below, below 64

pub in-own-single : (r : ℕ) → In (single r) r
in-own-single r = (in-single r r).1 refl

pub single-below : (n r : ℕ) → r < n → single r < 2 ^ n
unfolding single
single-below n r h = pow-lt h

pub below-single : (n r : ℕ) → single r < 2 ^ n → r < n
below-single n r h = (below-law n (single r)).0 h r (in-own-single r)

pub all_below-below : (n : ℕ) → all_below n < 2 ^ n
unfolding all_below
all_below-below n = ones_lt n

-- a set below 64 is held whole
pub below64-whole : (s : ℕ) → s < 2 ^ most_roles → below64 s ≡ s
unfolding below64
below64-whole s h = mod-eq_of_lt h

pub below64-single : (r : ℕ) → r < most_roles → below64 (single r) ≡ single r
below64-single r h = below64-whole (single r) (single-below most_roles r h)

pub below64-all_below : (n : ℕ) → n ≤ most_roles → below64 (all_below n) ≡ all_below n
below64-all_below n h = below64-whole (all_below n) (lt_of_lt_of_le (all_below-below n) (pow_mono h))

-- past 64 there is no role, and all below n is all there are
pub below64-no-role : (r : ℕ) → most_roles ≤ r → below64 (single r) ≡ 0
below64-no-role r h = set-ext (below64 (single r)) 0 (λ q. (
  (λ i. let p = (in-below64 (single r) q).0 i in let e = (in-single r q).0 p.0 in absurd (let z : ⊥ = omega arith in z)),
  λ i. absurd (in-empty q i),
))

pub below64-all : (n : ℕ) → most_roles ≤ n → below64 (all_below n) ≡ all_below most_roles
below64-all n h = set-ext (below64 (all_below n)) (all_below most_roles) (λ r. (
  (λ i. (in-all_below most_roles r).1 ((in-below64 (all_below n) r).0 i).1),
  λ i. let b = (in-all_below most_roles r).0 i in (in-below64 (all_below n) r).1 ((in-all_below n r).1 (omega arith), b),
))

-- ---- part of

pub part_of-refl : (s : ℕ) → T (part_of s s)
part_of-refl s = (part_of-law s s).1 (λ r i. i)

pub part_of-trans : (a b c : ℕ) → T (part_of a b) → T (part_of b c) → T (part_of a c)
part_of-trans a b c p q = (part_of-law a c).1 (λ r i. (part_of-law b c).0 q r ((part_of-law a b).0 p r i))

pub part_of-antisym : (a b : ℕ) → T (part_of a b) → T (part_of b a) → a ≡ b
part_of-antisym a b p q = set-ext a b (λ r. ((part_of-law a b).0 p r, (part_of-law b a).0 q r))

-- a part is no greater as a number
pub part_of-le : (s t : ℕ) → T (part_of s t) → s ≤ t
unfolding common
part_of-le s t p =
    subst (λ (x : ℕ). x ≤ t)
    (set-ext (common s t) s (λ r. ((λ i. ((in-common s t r).0 i).0), (λ i. (in-common s t r).1 (i, (part_of-law s t).0 p r i)))))
    (and_le_r s t)

pub part_of-below : (n s t : ℕ) → T (part_of s t) → t < 2 ^ n → s < 2 ^ n
part_of-below n s t p h = (below-law n s).1 (λ r i. (below-law n t).0 h r ((part_of-law s t).0 p r i))

-- a set lies below n exactly when it is part of all roles below n
pub part_of-all_below : (n s : ℕ) → T (part_of s (all_below n)) ↔ (s < 2 ^ n)
part_of-all_below n s = (
  (λ p. part_of-below n s (all_below n) p (all_below-below n)),
  λ h. (part_of-law s (all_below n)).1 (λ r i. (in-all_below n r).1 ((below-law n s).0 h r i)),
)

-- a set of roles 0 to 63 is held against as many of them as there are
pub part_of-below64-all : (n s : ℕ) → s < 2 ^ most_roles → part_of s (below64 (all_below n)) ≡ part_of s (all_below n)
part_of-below64-all n s b =
    by_cases (dec_lt n most_roles)
    (λ h. ap (part_of s) (below64-all_below n (le_of_lt h)))
    (λ h.
    ap (part_of s) (below64-all n (omega arith))
    ∙ T-ext (part_of s (all_below most_roles)) (part_of s (all_below n))
    ((λ t. (part_of-all_below n s).1 (lt_of_lt_of_le b (pow_mono (let z : most_roles ≤ n = omega arith in z)))), λ t. (part_of-all_below most_roles s).1 b))

-- and exactly when it is at most their set, as a number
pub leb-all_below : (n s : ℕ) → T (leb s (all_below n)) ↔ (s < 2 ^ n)
leb-all_below n s = (
  (λ h. let a = leb→le s (all_below n) h in let b = all_below-below n in omega arith),
  λ h. le→leb s (all_below n) (part_of-le s (all_below n) ((part_of-all_below n s).1 h)),
)

-- the role r is below n exactly when its set is part of all roles below n
pub single-part_of : (r n : ℕ) → ltb r n ≡ part_of (single r) (all_below n)
single-part_of r n = T-ext (ltb r n) (part_of (single r) (all_below n)) (
  (λ h. (part_of-all_below n (single r)).1 (single-below n r (ltb→lt r n h))),
  λ h. lt→ltb r n (below-single n r ((part_of-all_below n (single r)).0 h)),
)

-- ---- shares

-- a role in both is shared
pub shares_at : (s t r : ℕ) → In s r → In t r → T (shares s t)
shares_at s t r i j = (shares-law s t).1 (r, i, j)

pub shares-sym : (s t : ℕ) → T (shares s t) → T (shares t s)
shares-sym s t h = let p = (shares-law s t).0 h in shares_at t s p.0 p.2 p.1

pub shares-empty : (h : ℕ) → ¬ (T (shares h 0))
shares-empty h k = let p = (shares-law h 0).0 k in in-empty p.0 p.2

pub shares-single : (h r : ℕ) → T (shares h (single r)) ↔ In h r
shares-single h r = (
  (λ k. let p = (shares-law h (single r)).0 k in subst⁻¹ (In h) ((in-single r p.0).0 p.2) p.1),
  λ i. shares_at h (single r) r i (in-own-single r),
)

-- what shares a role with a part shares one with the whole
pub shares-part_of : (h s t : ℕ) → T (part_of s t) → T (shares h s) → T (shares h t)
shares-part_of h s t w k = let p = (shares-law h s).0 k in shares_at h t p.0 p.1 ((part_of-law s t).0 w p.0 p.2)

-- ---- joined

pub shares-joined : (h s t : ℕ) → T (shares h (joined s t)) ↔ (T (shares h s) ⊎ T (shares h t))
shares-joined h s t = (
  (λ k. let p = (shares-law h (joined s t)).0 k in
      ⊎_elim (λ i. inl (shares_at h s p.0 p.1 i)) (λ i. inr (shares_at h t p.0 p.1 i)) ((in-joined s t p.0).0 p.2)),
  ⊎_elim
      (shares-part_of h s (joined s t) ((part_of-law s (joined s t)).1 (λ r i. (in-joined s t r).1 (inl i))))
      (shares-part_of h t (joined s t) ((part_of-law t (joined s t)).1 (λ r i. (in-joined s t r).1 (inr i)))),
)

pub joined-below : (n s t : ℕ) → s < 2 ^ n → t < 2 ^ n → joined s t < 2 ^ n
joined-below n s t h k = (below-law n (joined s t)).1 (λ r i. ⊎_elim ((below-law n s).0 h r) ((below-law n t).0 k r) ((in-joined s t r).0 i))

pub joined-assoc : (s t u : ℕ) → joined (joined s t) u ≡ joined s (joined t u)
joined-assoc s t u = set-ext (joined (joined s t) u) (joined s (joined t u)) (λ r. (
  (λ i. (in-joined s (joined t u) r).1 (⊎_elim
      (λ j. ⊎_elim (λ k. inl k) (λ k. inr ((in-joined t u r).1 (inl k))) ((in-joined s t r).0 j))
      (λ k. inr ((in-joined t u r).1 (inr k))) ((in-joined (joined s t) u r).0 i))),
  λ i. (in-joined (joined s t) u r).1 (⊎_elim
      (λ k. inl ((in-joined s t r).1 (inl k)))
      (λ j. ⊎_elim (λ k. inl ((in-joined s t r).1 (inr k))) (λ k. inr k) ((in-joined t u r).0 j)) ((in-joined s (joined t u) r).0 i)),
))

-- ---- without

pub without-part_of : (s t : ℕ) → T (part_of (without s t) s)
without-part_of s t = (part_of-law (without s t) s).1 (λ r i. ((in_without s t r).0 i).0)

pub without-below : (n s t : ℕ) → s < 2 ^ n → without s t < 2 ^ n
without-below n s t = part_of-below n (without s t) s (without-part_of s t)

-- a set without t shares nothing with t
pub without-apart : (s t : ℕ) → ¬ (T (shares (without s t) t))
without-apart s t k = let p = (shares-law (without s t) t).0 k in ((in_without s t p.0).0 p.1).1 p.2

-- a set loses nothing by what it shares no role with
pub without-none : (s t : ℕ) → ¬ (T (shares s t)) → without s t ≡ s
without-none s t n = set-ext (without s t) s (λ r. ((λ i. ((in_without s t r).0 i).0), (λ i. (in_without s t r).1 (i, λ j. n (shares_at s t r i j)))))

pub empty-without : (t : ℕ) → without 0 t ≡ 0
empty-without t = without-none 0 t (λ k. shares-empty t (shares-sym 0 t k))

-- what shares nothing with d shares with s what it shares with the rest of s
pub shares-without : (h s d : ℕ) → ¬ (T (shares h d)) → T (shares h (without s d)) ↔ T (shares h s)
shares-without h s d n = (
  shares-part_of h (without s d) s (without-part_of s d),
  λ k. let p = (shares-law h s).0 k in shares_at h (without s d) p.0 p.1 ((in_without s d p.0).1 (p.2, λ i. n (shares_at h d p.0 p.1 i))),
)
