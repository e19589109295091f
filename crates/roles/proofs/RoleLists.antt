-- Ascending lists of roles, and the sets that they are the roles of. Assumes nothing.
use mathlib.Core.Path.{◌≡◌, refl, sym, ap, ◌∙◌, subst, subst⁻¹}
use mathlib.Core.Bool.{Bool, true, false, cond, not, ◌&&◌}
use mathlib.Core.List.{List, [], ◌∷◌}
use mathlib.Core.Logic.{◌↔◌, ◌≢◌, inl, inr, ⊎_elim, by_cases}
use Prim.Native.Nat.{ℕ, zero, suc, ◌+◌, ◌^◌, ◌≤◌, ◌<◌}
use native.Mathlib.Decide.{dec_lt}
use native.Mathlib.Omega.{arith}
use borrow.Author.Tests.{eq-eqb, ne_eqb}
use lib.Bits.{or_zero_r}
use lib.Dec.{T, not_T, eqb}
use Rattle.std.proofs.Math.Bool.{and-false, and-true}
use Rattle.std.specs.Prelude.{None, Some}
use Rattle.roles.specs.Sets.{most_roles, last_role, has, In, single, below64, joined, without, set_of, outside, role_named, roles_from, roles_of}
use Rattle.roles.proofs.Tests.{T-ext, T_true, T_false}
use Rattle.roles.proofs.Digits.{has-single, has-without}
use Rattle.roles.proofs.Member.{in-empty, in-set_of, set-ext, below-law}
use Rattle.roles.proofs.Laws.{in⇒nonempty, joined-assoc, part_of-le, below64-single}
use Rattle.roles.proofs.Naming.{outside-le, outside-names, none-part, named-no-part}

-- strictly ascending from `low` to the last role
abbrev pub From : ℕ → List ℕ → Type 0
From low [] = Unit {0}
From low (r ∷ l) = (low ≤ r) × (r ≤ last_role) × From (suc r) l

pub from_less : (low m : ℕ) (l : List ℕ) → m ≤ low → From low l → From m l
from_less low m [] h f = tt
from_less low m (r ∷ l) h f = (omega arith, f.1, f.2)

pub roles-from : (k r s : ℕ) → k + r ≤ most_roles → From r (roles_from k r s)
unfolding roles_from
roles-from zero r s h = tt
roles-from (suc k) r s h = go (has s r) (roles-from k (suc r) s (omega arith))
  where
    go : (b : Bool) → From (suc r) (roles_from k (suc r) s) → From r (cond b (r ∷ roles_from k (suc r) s) (roles_from k (suc r) s))
    go true f = (omega arith, omega arith, f)
    go false f = from_less (suc r) r (roles_from k (suc r) s) (omega arith) f

-- all roles of a set
pub roles_of-from : (s : ℕ) → From 0 (roles_of s)
unfolding roles_of
roles_of-from s = roles-from most_roles 0 s (omega arith)

set_of-from : (low : ℕ) (l : List ℕ) → From low l → (q : ℕ) → In (set_of l) q → (low ≤ q) × (q < most_roles)
unfolding set_of
set_of-from low [] f q i = absurd (in-empty q i)
set_of-from low (r ∷ l) f q i =
    ⊎_elim (λ e. (omega arith, omega arith)) (λ j. let p = set_of-from (suc r) l f.2 q j in (omega arith, p.1)) ((in-set_of r l q).0 i)

pub set_of-below : (l : List ℕ) → From 0 l → set_of l < 2 ^ most_roles
set_of-below l f = (below-law most_roles (set_of l)).1 (λ q i. (set_of-from 0 l f q i).1)

pub set_of-nonempty : (r : ℕ) (l : List ℕ) → set_of (r ∷ l) ≢ 0
set_of-nonempty r l = in⇒nonempty (set_of (r ∷ l)) r ((in-set_of r l r).1 (inl refl))

-- the roles that are gathered are those of the set
in-roles_from : (k r s q : ℕ) → In (set_of (roles_from k r s)) q ↔ (In s q × (r ≤ q) × (q < k + r))
unfolding roles_from set_of
in-roles_from zero r s q = ((λ i. absurd (in-empty q i)), (λ p. absurd (omega arith)))
in-roles_from (suc k) r s q = go (has s r) refl (in-roles_from k (suc r) s q)
  where
    go : (b : Bool) → has s r ≡ b → In (set_of (roles_from k (suc r) s)) q ↔ (In s q × (suc r ≤ q) × (q < k + suc r))
        → In (set_of (cond b (r ∷ roles_from k (suc r) s) (roles_from k (suc r) s))) q ↔ (In s q × (r ≤ q) × (q < suc k + r))
    go true e i = let j = in-set_of r (roles_from k (suc r) s) q in (
      (λ m. ⊎_elim (λ p. (rw (← p, e) tt, omega arith, omega arith)) (λ n. let p = i.0 n in (p.0, omega arith, omega arith)) (j.0 m)),
      λ p. j.1 (by_cases (dec_lt r q) (λ h. inr (i.1 (p.0, h, omega arith))) (λ h. inl (omega arith))),
    )
    go false e i = (
      (λ m. let p = i.0 m in (p.0, omega arith, omega arith)),
      λ p. i.1 (p.0, by_cases (dec_lt r q) (λ h. h) (λ h. let x : q ≡ r = omega arith in absurd (subst T (ap (has s) x ∙ e) p.0)), omega arith),
    )

-- a set of roles is the set of its list
pub set_of-roles_of : (s : ℕ) → s < 2 ^ most_roles → set_of (roles_of s) ≡ s
unfolding roles_of
set_of-roles_of s h = set-ext (set_of (roles_from most_roles 0 s)) s (λ q. (
  (λ i. ((in-roles_from most_roles 0 s q).0 i).0),
  λ i. (in-roles_from most_roles 0 s q).1 (i, omega arith, (let b = (below-law most_roles s).0 h q i in omega arith)),
))

has-yes : (s r : ℕ) → In s r → has s r ≡ true
has-yes s r i = T-ext (has s r) true ((λ j. tt), (λ j. i))

has_no : (s r : ℕ) → ¬ (In s r) → has s r ≡ false
has_no s r n = T-ext (has s r) false (n, λ j. absurd j)

-- an ascending list whose set agrees with s from r on has the roles of s from r on
roles_from-is : (k r s : ℕ) (l : List ℕ) → k + r ≡ most_roles → From r l → ((q : ℕ) → r ≤ q → In s q ↔ In (set_of l) q) → roles_from k r s ≡ l
unfolding roles_from set_of
roles_from-is zero r s [] h f e = refl
roles_from-is zero r s (p ∷ l) h f e = absurd (omega arith)
roles_from-is (suc k) r s [] h f e =
    rw (has_no s r (λ i. in-empty r ((e r (omega arith)).0 i))) (roles_from-is k (suc r) s [] (omega arith) tt (λ q g. e q (omega arith)))
roles_from-is (suc k) r s (p ∷ l) h f e =
    by_cases (dec_lt r p)
    (λ b. rw (has_no s r (λ i. let u = (set_of-from p (p ∷ l) (omega arith, f.1, f.2) r ((e r (omega arith)).0 i)).0 in omega arith))
    (roles_from-is k (suc r) s (p ∷ l) (omega arith) (b, f.1, f.2) (λ q g. e q (omega arith))))
    (λ b.
    let x : p ≡ r = omega arith in
    rw (has-yes s r ((e r (omega arith)).1 ((in-set_of p l r).1 (inl x))), x)
    (ap (λ (y : List ℕ). r ∷ y)
    (roles_from-is k (suc r) s l (omega arith) (from_less (suc p) (suc r) l (omega arith) f.2) (λ q g. (
      (λ i. ⊎_elim (λ y. absurd (omega arith)) (λ j. j) ((in-set_of p l q).0 ((e q (omega arith)).0 i))),
      λ i. (e q (omega arith)).1 ((in-set_of p l q).1 (inr i)),
    )))))

pub roles_of-set_of : (l : List ℕ) → From 0 l → roles_of (set_of l) ≡ l
unfolding roles_of
roles_of-set_of l f = roles_from-is most_roles 0 (set_of l) l (omega arith) f (λ q h. ((λ i. i), (λ i. i)))

-- a role beside s, then those of l: all of them beside s
pub joined-set_of : (s r : ℕ) (l : List ℕ) → joined (joined s (single r)) (set_of l) ≡ joined s (set_of (r ∷ l))
unfolding set_of
joined-set_of s r l = joined-assoc s (single r) (set_of l)

pub joined-alone : (s r : ℕ) → joined s (single r) ≡ joined s (set_of (r ∷ []))
unfolding joined set_of
joined-alone s r = sym (ap (joined s) (or_zero_r (single r)))

-- ---- the lowest role is the first of them

-- sets that agree from r on have the same roles there
roles_from-same : (k r s t : ℕ) → ((q : ℕ) → r ≤ q → has s q ≡ has t q) → roles_from k r s ≡ roles_from k r t
unfolding roles_from
roles_from-same zero r s t e = refl
roles_from-same (suc k) r s t e = rw (e r (omega arith), roles_from-same k (suc r) s t (λ q h. e q (omega arith))) refl

-- where p is the lowest role of s, and t is s without it
module _ (s t p : ℕ) (has-p : has s p ≡ true) (lacks-p : has t p ≡ false) (below : (q : ℕ) → q < p → has s q ≡ false) (same : (q : ℕ) → q ≢ p → has s q ≡ has t q) where
  roles_from-lowest : (k r : ℕ) → r ≤ p → p < k + r → roles_from k r s ≡ p ∷ roles_from k r t
  unfolding roles_from
  roles_from-lowest zero r h l = absurd (omega arith)
  roles_from-lowest (suc k) r h l =
      by_cases (dec_lt r p)
      (λ b. rw (below r b, sym (same r (λ e. omega arith)) ∙ below r b) (roles_from-lowest k (suc r) (omega arith) (omega arith)))
      (λ b.
      let e : r ≡ p = omega arith in
      rw (e, has-p, lacks-p, roles_from-same k (suc p) s t (λ q g. same q (λ x. omega arith))) refl)

-- of a set that has roles the lowest comes first, then those of the set without it
pub roles-lowest : {s r p t : ℕ} → s < 2 ^ most_roles → Some r ≡ role_named (outside s 0) → p ≡ below64 (single r) → t ≡ without s p → roles_of s ≡ r ∷ roles_of t
unfolding roles_of
roles-lowest {s} {r} {p} {t} fits some f g =
    let told = named-no-part s 0 fits some in
    let e = told.1 in
    let n = rw (← e) at (outside-names s 0 fits) in
    let ne : r ≢ most_roles = λ h. subst T told.0 (n.part.0 h) in
    let le = outside-le s 0 in
    let short : r < most_roles = omega arith in
    let test : (q : ℕ) → has t q ≡ (has s q && not (eqb r q)) = λ q. rw (g, f, below64-single r short, has-without s (single r) q, has-single r q) refl in
    roles_from-lowest s t r
    (T_true (has s r) (n.named ne).0)
    (test r ∙ rw (eq-eqb r r refl) (and-false (has s r)))
    (λ q l. T_false (has s q) (not_T (has s q) (λ i. in-empty q (n.first q l i))))
    (λ q d. sym (test q ∙ rw (ne_eqb r q (λ x. d (sym x))) (and-true (has s q))))
    most_roles 0 (omega arith) (omega arith)

pub roles-none : roles_of 0 ≡ []
unfolding roles_of set_of
roles-none = roles_from-is most_roles 0 0 [] (omega arith) tt (λ q h. ((λ i. i), (λ i. i)))

-- where no role is named there is none
pub none-named : {s : ℕ} → s < 2 ^ most_roles → None ≡ role_named (outside s 0) → s ≡ 0
none-named {s} fits none = let le = part_of-le s 0 (subst⁻¹ T (none-part s 0 fits none) tt) in omega arith

-- of one role
pub roles_of-single : (r : ℕ) → r < most_roles → roles_of (single r) ≡ r ∷ []
unfolding set_of joined
roles_of-single r h = ap roles_of (sym (or_zero_r (single r))) ∙ roles_of-set_of (r ∷ []) (omega arith, omega arith, tt)
