-- Which roles and sets a sheet shows of a row. Assumes nothing.
use mathlib.Core.Path.{◌≡◌, refl, sym, ap, ◌∙◌, subst, subst⁻¹}
use mathlib.Core.Bool.{Bool, true, false, cond}
use mathlib.Core.List.{List, [], ◌∷◌}
use mathlib.Core.Logic.{◌↔◌, inl, inr, ⊎_elim, by_cases}
use Prim.Native.Nat.{ℕ, zero, suc, ◌+◌, ◌≤◌, ◌<◌}
use native.Mathlib.Decide.{dec_lt}
use native.Mathlib.Omega.{arith}
use lib.Dec.{T, eqb, eqb→eq}
use lib.ListN.{length}
use Rattle.roles.specs.Sets.{most_roles, has, In, single, Below, roles_from, roles_of}
use Rattle.roles.proofs.Member.{in-single, set-ext, below-law}
use Rattle.roles.proofs.Laws.{below-single}
use Rattle.meaning.specs.Lists.{Mem, keep}
use Rattle.meaning.proofs.ListLaws.{keep-law, mem-append}
use Rattle.roles.proofs.RoleLists.{roles_of-single}
use Rattle.sheet.specs.Text.{alone, roles_of_all}

-- ---- the roles of a set

mem-from : (k r s q : ℕ) → Mem q (roles_from k r s) ↔ (In s q × (r ≤ q) × (q < k + r))
unfolding roles_from
mem-from zero r s q = ((λ m. absurd m), (λ p. absurd (omega arith)))
mem-from (suc k) r s q = go (has s r) refl (mem-from k (suc r) s q)
  where
    go : (b : Bool) → has s r ≡ b → Mem q (roles_from k (suc r) s) ↔ (In s q × (suc r ≤ q) × (q < k + suc r))
        → Mem q (cond b (r ∷ roles_from k (suc r) s) (roles_from k (suc r) s)) ↔ (In s q × (r ≤ q) × (q < suc k + r))
    go true e i = (
      (λ m. ⊎_elim (λ x. (subst⁻¹ (In s) x (subst⁻¹ T e tt), omega arith, omega arith)) (λ n. let p = i.0 n in (p.0, omega arith, omega arith)) m),
      λ p. by_cases (dec_lt r q) (λ h. inr (i.1 (p.0, h, omega arith))) (λ h. inl (omega arith)),
    )
    go false e i = (
      (λ m. let p = i.0 m in (p.0, omega arith, omega arith)),
      λ p. i.1 (p.0, by_cases (dec_lt r q) (λ h. h) (λ h. let x : q ≡ r = omega arith in absurd (subst T (ap (has s) x ∙ e) p.0)), omega arith),
    )

pub mem-roles : (s q : ℕ) → Below most_roles s → Mem q (roles_of s) ↔ In s q
unfolding roles_of
mem-roles s q b = ((λ m. ((mem-from most_roles 0 s q).0 m).0), (λ i. (mem-from most_roles 0 s q).1 (i, omega arith, (let h = (below-law most_roles s).0 b q i in omega arith))))

-- ---- the roles of sets

mem-all : (q : ℕ) (l : List ℕ) → Mem q (roles_of_all l) ↔ ((o : ℕ) × Mem o l × Mem q (roles_of o))
unfolding roles_of_all
mem-all q [] = ((λ m. absurd m), (λ p. absurd p.1))
mem-all q (s ∷ l) = let i = mem-all q l in let j = mem-append q (roles_of s) (roles_of_all l) in (
  (λ m. ⊎_elim (λ n. (s, inl refl, n)) (λ n. let p = i.0 n in (p.0, inr p.1, p.2)) (j.0 m)),
  λ p. j.1 (⊎_elim (λ e. inl (subst (λ (x : ℕ). Mem q (roles_of x)) e p.2)) (λ n. inr (i.1 (p.0, n, p.2))) p.1),
)

-- ---- sets of one role

one-of-one : (l : List ℕ) → length l ≡ 1 → (q r : ℕ) → Mem q l → Mem r l → q ≡ r
one-of-one [] e q r m n = absurd m
one-of-one (x ∷ []) e q r m n = ⊎_elim (λ a. ⊎_elim (λ b. a ∙ sym b) (λ b. absurd b) n) (λ a. absurd a) m
one-of-one (x ∷ y ∷ l) e q r m n = absurd (omega arith)

alone-single : (o r : ℕ) → Below most_roles o → T (alone o) → In o r → o ≡ single r
unfolding alone
alone-single o r b t i = set-ext o (single r) (λ q. (
  (λ j. (in-single r q).1 (one-of-one (roles_of o) (eqb→eq (length (roles_of o)) 1 t) r q ((mem-roles o r b).1 i) ((mem-roles o q b).1 j))),
  λ j. subst (In o) ((in-single r q).0 j) i,
))

single-alone : (r : ℕ) → r < most_roles → T (alone (single r))
unfolding alone
single-alone r h = subst⁻¹ (λ (l : List ℕ). T (eqb (length l) 1)) (roles_of-single r h) tt

-- the roles shown as proved are those whose set of one role is an open set
pub mem-proved : (l : List ℕ) → ((o : ℕ) → Mem o l → Below most_roles o) → (r : ℕ) → Mem r (roles_of_all (keep alone l)) ↔ Mem (single r) l
mem-proved l b r = (
  (λ m.
      let p = (mem-all r (keep alone l)).0 m in
      let k = (keep-law alone l p.0).0 p.1 in
      let below = b p.0 k.0 in
      subst (λ (x : ℕ). Mem x l) (alone-single p.0 r below k.1 ((mem-roles p.0 r below).0 p.2)) k.0),
  λ m.
      let h : r < most_roles = below-single most_roles r (b (single r) m) in
      (mem-all r (keep alone l)).1 (single r, (keep-law alone l (single r)).1 (m, single-alone r h), (mem-roles (single r) r (b (single r) m)).1 ((in-single r r).1 refl)),
)
