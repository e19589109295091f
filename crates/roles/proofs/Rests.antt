-- The roles of a set from one on, and the way from one role of a set to the next. Assumes nothing.
use mathlib.Core.Path.{◌≡◌, refl, sym, ap, ◌∙◌}
use mathlib.Core.Bool.{true, false, cond}
use mathlib.Core.List.{List, [], ◌∷◌}
use mathlib.Core.Logic.{◌↔◌, by_cases}
use Prim.Native.Nat.{ℕ, zero, suc, ◌+◌, ◌-◌, ◌^◌, ◌≤◌, ◌<◌}
use native.Mathlib.Nat.{add-zero}
use native.Mathlib.Numerals.{add-one}
use native.Mathlib.Decide.{dec_lt}
use native.Mathlib.Omega.{arith}
use lib.Dec.{not_T}
use Rattle.roles.specs.Sets.{has, In, most_roles, outside, roles_from, roles_of}
use Rattle.roles.proofs.Tests.{T_false}
use Rattle.roles.proofs.Naming.{outside-le, outside-names}

-- the roles from r on
abbrev pub rest_roles : ℕ → ℕ → List ℕ
rest_roles r s = roles_from (most_roles - r) r s

pub roles-start : (s : ℕ) → roles_of s ≡ rest_roles 0 s
unfolding roles_of
roles-start s = refl

roles-at : (r s : ℕ) → r < most_roles → rest_roles r s ≡ cond (has s r) (r ∷ rest_roles (r + 1) s) (rest_roles (r + 1) s)
unfolding roles_from
roles-at r s h = let e : most_roles - r ≡ suc (most_roles - (r + 1)) = omega arith in rw (e, add-one) refl

pub roles-has : (r s : ℕ) → r < most_roles → has s r ≡ true → rest_roles r s ≡ r ∷ rest_roles (r + 1) s
roles-has r s h e = rw (roles-at r s h, e) refl

roles-lacks : (r s : ℕ) → r < most_roles → has s r ≡ false → rest_roles r s ≡ rest_roles (r + 1) s
roles-lacks r s h e = rw (roles-at r s h, e) refl

pub roles-end : (r s : ℕ) → most_roles ≤ r → rest_roles r s ≡ []
unfolding roles_from
roles-end r s h = let e : most_roles - r ≡ 0 = omega arith in rw e refl

-- from one role of s to the next: t has the roles below r, and no other
module _ (r s t : ℕ) (fits : s < 2 ^ most_roles) (low : r ≤ most_roles) (below : (q : ℕ) → q < most_roles → In t q ↔ (q < r)) where
  pub next-above : r ≤ outside s t
  next-above = by_cases (dec_lt (outside s t) r)
      (λ h. absurd (((outside-names s t fits).named (λ e. omega arith)).1 ((below (outside s t) (omega arith)).1 h)))
      (λ h. omega arith)

  none_between : (q : ℕ) → r ≤ q → q < outside s t → has s q ≡ false
  none_between q h k =
      T_false (has s q) (not_T (has s q) (λ i.
      let m = outside-le s t in
      let b : q < r = (below q (omega arith)).0 ((outside-names s t fits).first q k i) in omega arith))

  roles-up : (k : ℕ) → r + k ≤ outside s t → rest_roles r s ≡ rest_roles (r + k) s
  roles-up zero h = ap (λ (i : ℕ). rest_roles i s) (sym (add-zero r))
  roles-up (suc k) h =
      let m = outside-le s t in
      let e : r + k + 1 ≡ r + suc k = omega arith in
      roles-up k (omega arith) ∙ roles-lacks (r + k) s (omega arith) (none_between (r + k) (omega arith) (omega arith)) ∙ ap (λ (i : ℕ). rest_roles i s) e

  pub roles-next : rest_roles r s ≡ rest_roles (outside s t) s
  roles-next =
      let h = next-above in
      let e : r + (outside s t - r) ≡ outside s t = omega arith in
      roles-up (outside s t - r) (omega arith) ∙ ap (λ (i : ℕ). rest_roles i s) e
