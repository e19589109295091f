-- Laws of lists of open sets: their members, what reducing leaves of them, and which holder sets meet them. Assumes nothing.
use mathlib.Core.Path.{◌≡◌, refl, sym, ap, ap₂, ◌∙◌, subst, subst⁻¹}
use mathlib.Core.Bool.{Bool, false, not, ◌&&◌}
use mathlib.Core.List.{List, [], ◌∷◌, ◌++◌, map}
use mathlib.Core.Logic.Iff
use mathlib.Core.Logic.{◌↔◌, ◌≢◌, inl, inr, ⊎_elim}
use Prim.Native.Nat.{ℕ, zero, suc, ◌<◌, ◌≤◌}
use native.Mathlib.Decide.{ℕ_discrete}
use native.Mathlib.Omega.{arith}
use lib.Dec.{T, T_not, not_T, eqb, eqb→eq, eqb_refl}
use lib.ListN.{length, length-map}
use Rattle.roles.specs.Sets.{without, shares, part_of}
use Rattle.roles.proofs.Tests.{T?, T_and}
use Rattle.roles.proofs.Laws.{part_of-refl, part_of-trans, part_of-antisym, part_of-le, shares-sym, shares-part_of, without-none, shares-without}
use Rattle.meaning.specs.Lists.{Mem, Ascending, keep, in_order}
use Rattle.meaning.specs.Rows.{Free, has_part, has_proper_part, losing, apart, shares_some, reduce}
use Rattle.meaning.proofs.ListLaws.{any-law, none-law, keep-law, keep-ascending, length-keep, in_order-law, in_order-ascending, mem-snoc, ascending-snoc, ascending-ext}

-- ---- parts

pub has_part-law : (s : ℕ) (l : List ℕ) → T (has_part s l) ↔ ((o : ℕ) × Mem o l × T (part_of o s))
unfolding has_part
has_part-law s l = any-law (λ o. part_of o s) l

pub no_part-law : (s : ℕ) (l : List ℕ) → T (not (has_part s l)) ↔ ((o : ℕ) → Mem o l → T (not (part_of o s)))
unfolding has_part
no_part-law s l = none-law (λ o. part_of o s) l

proper_part-law : (o s : ℕ) → T (part_of o s && not (eqb o s)) ↔ (T (part_of o s) × (o ≢ s))
proper_part-law o s = (
  (λ h. let p = (T_and (part_of o s) (not (eqb o s))).0 h in (p.0, λ e. T_not (eqb o s) p.1 (subst (λ (z : ℕ). T (eqb o z)) e (eqb_refl o)))),
  λ p. (T_and (part_of o s) (not (eqb o s))).1 (p.0, not_T (eqb o s) (λ t. p.1 (eqb→eq o s t))),
)

has_proper_part-law : (s : ℕ) (l : List ℕ) → T (has_proper_part s l) ↔ ((o : ℕ) × Mem o l × T (part_of o s) × (o ≢ s))
unfolding has_proper_part
has_proper_part-law s l = let some = any-law (λ o. part_of o s && not (eqb o s)) l in (
  (λ h. let r = some.0 h in let p = (proper_part-law r.0 s).0 r.2 in (r.0, r.1, p.0, p.1)),
  λ r. some.1 (r.0, r.1, (proper_part-law r.0 s).1 (r.2, r.3)),
)

-- no other set of the list is part of s
abbrev pub Least : ℕ → List ℕ → Type 0
Least s l = (o : ℕ) → Mem o l → T (part_of o s) → o ≡ s

pub no_proper_part-law : (s : ℕ) (l : List ℕ) → T (not (has_proper_part s l)) ↔ Least s l
no_proper_part-law s l = let some = has_proper_part-law s l in (
  (λ h o m t. elim (ℕ_discrete o s) [ yes e ↦ e | no n ↦ absurd (T_not (has_proper_part s l) h (some.1 (o, m, t, n))) ]),
  λ f. not_T (has_proper_part s l) (λ h. let r = some.0 h in r.3 (f r.0 r.1 r.2)),
)

-- ---- losing, apart

pub losing-law : (s : ℕ) (l : List ℕ) (o : ℕ) → Mem o (losing s l) ↔ ((x : ℕ) × Mem x l × (o ≡ without x s))
unfolding losing
losing-law s [] o = ((λ m. absurd m), (λ p. p.1))
losing-law s (x ∷ l) o = (
  ⊎_elim (λ e. (x, inl refl, e)) (λ m. let r = (losing-law s l o).0 m in (r.0, inr r.1, r.2)),
  λ p. ⊎_elim (λ e. inl (p.2 ∙ ap (λ (z : ℕ). without z s) e)) (λ m. inr ((losing-law s l o).1 (p.0, m, p.2))) p.1,
)

pub apart-law : (u : ℕ) (l : List ℕ) (o : ℕ) → Mem o (apart u l) ↔ (Mem o l × ¬ (T (shares o u)))
unfolding apart
apart-law u l o = (
  (λ m. let p = law.0 m in (p.0, T_not (shares o u) p.1)),
  λ p. law.1 (p.0, not_T (shares o u) p.1),
)
  where
    law : Mem o (keep (λ o. not (shares o u)) l) ↔ (Mem o l × T (not (shares o u)))
    law = keep-law (λ o. not (shares o u)) l o

apart-ascending : (u : ℕ) (l : List ℕ) → Ascending l → Ascending (apart u l)
unfolding apart
apart-ascending u l = keep-ascending (λ o. not (shares o u)) l

-- sets of which none is part of another stay so
pub apart-free : (u : ℕ) (l : List ℕ) → Free l → Free (apart u l)
apart-free u l f =
    let from = apart-law u l in
    record { ascending = apart-ascending u l f.ascending; no_part = λ o p m k. f.no_part o p ((from o).0 m).0 ((from p).0 k).0 }

-- nothing is lost where no set shares a role
pub losing-none : (s : ℕ) (l : List ℕ) → shares_some s l ≡ false → losing s l ≡ l
unfolding losing shares_some
losing-none s l e = go l ((none-law (shares s) l).0 (subst⁻¹ (λ (b : Bool). T (not b)) e tt))
  where
    go : (l : List ℕ) → ((o : ℕ) → Mem o l → T (not (shares s o))) → map (λ o. without o s) l ≡ l
    go [] f = refl
    go (o ∷ l) f =
        ap₂ (λ (x : ℕ) (k : List ℕ). x ∷ k)
        (without-none o s (λ t. T_not (shares s o) (f o (inl refl)) (shares-sym o s t)))
        (go l (λ x m. f x (inr m)))

pub length-losing : (s : ℕ) (l : List ℕ) → length (losing s l) ≡ length l
unfolding losing
length-losing s l = length-map l (λ o. without o s)

pub length-apart : (u : ℕ) (l : List ℕ) → length (apart u l) ≤ length l
unfolding apart
length-apart u l = length-keep (λ o. not (shares o u)) l

-- ---- reduce

pub reduce-none : reduce [] ≡ []
unfolding reduce keep in_order
reduce-none = refl

-- the reduced list has exactly the sets that have no other as a proper part
pub reduce-law : (l : List ℕ) (x : ℕ) → Mem x (reduce l) ↔ (Mem x l × T (not (has_proper_part x l)))
unfolding reduce
reduce-law l x = Iff.trans (in_order-law _ x) (keep-law _ l x)

-- that is, of which no other is a part
pub reduce-least : (l : List ℕ) (x : ℕ) → Mem x (reduce l) ↔ (Mem x l × Least x l)
reduce-least l x = Iff.trans (reduce-law l x) (
  (λ p. (p.0, (no_proper_part-law x l).0 p.1)),
  λ p. (p.0, (no_proper_part-law x l).1 p.1),
)

-- each once, ascending
pub reduce-ascending : (l : List ℕ) → Ascending (reduce l)
unfolding reduce
reduce-ascending l = in_order-ascending _

pub free-empty : Free []
free-empty = record { ascending = tt; no_part = λ o p m. absurd m }

-- none is part of another
pub reduce-free : (l : List ℕ) → Free (reduce l)
reduce-free l = record { ascending = reduce-ascending l; no_part = λ o p m k t. ((reduce-least l p).0 k).1 o ((reduce-law l o).0 m).0 t }

-- and such sets are left as they are
pub free-reduced : (l : List ℕ) → Free l → reduce l ≡ l
free-reduced l f = ascending-ext (reduce l) l (reduce-ascending l) f.ascending (λ x. (
  (λ m. ((reduce-law l x).0 m).0),
  λ m. (reduce-least l x).1 (m, λ o k t. f.no_part o x k m t),
))

-- every set of the list has a part in the reduced list: a proper part is smaller as a number, so going to one ends
pub reduce-part : (l : List ℕ) (x : ℕ) → Mem x l → (y : ℕ) × Mem y (reduce l) × T (part_of y x)
reduce-part l x m = from (suc x) x (omega arith) m
  where
    from : (k x : ℕ) → x < k → Mem x l → (y : ℕ) × Mem y (reduce l) × T (part_of y x)
    from zero x h m = absurd (let z : ⊥ = omega arith in z)
    from (suc k) x h m =
        ⊎_elim
        (λ t. let p = (has_proper_part-law x l).0 t in
        let le = part_of-le p.0 x p.2 in
        let ne = p.3 in
        let r = from k p.0 (omega arith) p.1 in
        (r.0, r.1, part_of-trans r.0 p.0 x r.2 p.2))
        (λ t. (x, (reduce-law l x).1 (m, t), part_of-refl x))
        (T? (has_proper_part x l))

-- the same sets, in any order and number, reduce to the same list
pub reduce-ext : (l k : List ℕ) → ((x : ℕ) → Mem x l ↔ Mem x k) → reduce l ≡ reduce k
reduce-ext l k same = ascending-ext (reduce l) (reduce k) (reduce-ascending l) (reduce-ascending k) (λ x. (kept l k same x, kept k l (λ y. Iff.symm (same y)) x))
  where
    kept : (l k : List ℕ) → ((x : ℕ) → Mem x l ↔ Mem x k) → (x : ℕ) → Mem x (reduce l) → Mem x (reduce k)
    kept l k same x m = let p = (reduce-least l x).0 m in (reduce-least k x).1 ((same x).0 p.0, λ o n t. p.1 o ((same o).1 n) t)

-- one set more goes where one that is kept is part of it; else it stays, if it is no smaller as a number than the others
module _ (l : List ℕ) (x : ℕ) where
  pub reduce-drops : T (has_part x (reduce l)) → reduce (l ++ x ∷ []) ≡ reduce l
  reduce-drops t = ascending-ext (reduce (l ++ x ∷ [])) (reduce l) (reduce-ascending (l ++ x ∷ [])) (reduce-ascending l) (λ y. (to y, from y))
    where
      part : (o : ℕ) × Mem o (reduce l) × T (part_of o x)
      part = (has_part-law x (reduce l)).0 t

      to : (y : ℕ) → Mem y (reduce (l ++ x ∷ [])) → Mem y (reduce l)
      to y m =
          let p = (reduce-least (l ++ x ∷ []) y).0 m in
          ⊎_elim
          (λ k. (reduce-least l y).1 (k, λ o n. p.1 o ((mem-snoc l x o).1 (inl n))))
          (λ e. subst (λ (z : ℕ). Mem z (reduce l))
          (p.1 part.0 ((mem-snoc l x part.0).1 (inl ((reduce-law l part.0).0 part.1).0)) (subst⁻¹ (λ (z : ℕ). T (part_of part.0 z)) e part.2))
          part.1)
          ((mem-snoc l x y).0 p.0)

      from : (y : ℕ) → Mem y (reduce l) → Mem y (reduce (l ++ x ∷ []))
      from y m =
          let p = (reduce-least l y).0 m in
          (reduce-least (l ++ x ∷ []) y).1 ((mem-snoc l x y).1 (inl p.0), λ o n u. ⊎_elim (λ k. p.1 o k u) (λ e. same o e u) ((mem-snoc l x o).0 n))
        where
          -- what is part of x is y itself, so x is too
          same : (o : ℕ) → o ≡ x → T (part_of o y) → o ≡ y
          same o e u =
              let v = subst (λ (z : ℕ). T (part_of z y)) e u in
              let q = ((reduce-least l y).0 m).1 part.0 ((reduce-law l part.0).0 part.1).0 (part_of-trans part.0 x y part.2 v) in
              e ∙ part_of-antisym x y v (subst (λ (z : ℕ). T (part_of z x)) q part.2)

  pub reduce-keeps : ((y : ℕ) → Mem y l → y ≤ x) → T (not (has_part x (reduce l))) → reduce (l ++ x ∷ []) ≡ reduce l ++ x ∷ []
  reduce-keeps above t =
      ascending-ext (reduce (l ++ x ∷ [])) (reduce l ++ x ∷ []) (reduce-ascending (l ++ x ∷ []))
      (ascending-snoc (reduce l) x (reduce-ascending l) below) (λ y. (to y, from y))
    where
      none : (o : ℕ) → Mem o l → ¬ (T (part_of o x))
      none o m u = let p = reduce-part l o m in T_not (part_of p.0 x) ((no_part-law x (reduce l)).0 t p.0 p.1) (part_of-trans p.0 o x p.2 u)

      below : (y : ℕ) → Mem y (reduce l) → y < x
      below y m =
          let k = ((reduce-law l y).0 m).0 in
          let le = above y k in
          let ne : y ≢ x = λ e. none y k (subst (λ (z : ℕ). T (part_of y z)) e (part_of-refl y)) in
          omega arith

      to : (y : ℕ) → Mem y (reduce (l ++ x ∷ [])) → Mem y (reduce l ++ x ∷ [])
      to y m =
          let p = (reduce-least (l ++ x ∷ []) y).0 m in
          (mem-snoc (reduce l) x y).1 (⊎_elim (λ k. inl ((reduce-least l y).1 (k, λ o n. p.1 o ((mem-snoc l x o).1 (inl n))))) (λ e. inr e) ((mem-snoc l x y).0 p.0))

      from : (y : ℕ) → Mem y (reduce l ++ x ∷ []) → Mem y (reduce (l ++ x ∷ []))
      from y m = (reduce-least (l ++ x ∷ []) y).1 (⊎_elim old new ((mem-snoc (reduce l) x y).0 m))
        where
          old : Mem y (reduce l) → Mem y (l ++ x ∷ []) × Least y (l ++ x ∷ [])
          old k =
              let p = (reduce-least l y).0 k in
              let lt = below y k in (
                (mem-snoc l x y).1 (inl p.0),
                λ o n u. ⊎_elim (λ q. p.1 o q u) (λ e. let le = part_of-le o y u in absurd (let z : ⊥ = omega arith in z)) ((mem-snoc l x o).0 n),
              )

          new : y ≡ x → Mem y (l ++ x ∷ []) × Least y (l ++ x ∷ [])
          new e = (
            (mem-snoc l x y).1 (inr e),
            λ o n u. ⊎_elim (λ q. absurd (none o q (subst (λ (z : ℕ). T (part_of o z)) e u))) (λ f. f ∙ sym e) ((mem-snoc l x o).0 n),
          )

-- ---- the holder sets that share a role with each set of the list

abbrev pub Meets : ℕ → List ℕ → Type 0
Meets h l = (o : ℕ) → Mem o l → T (shares h o)

-- reducing changes nothing of it
pub reduce-meets : (l : List ℕ) (h : ℕ) → Meets h (reduce l) ↔ Meets h l
reduce-meets l h = (
  (λ m o k. let r = reduce-part l o k in shares-part_of h r.0 o r.2 (m r.0 r.1)),
  λ m o k. m o ((reduce-law l o).0 k).0,
)

-- nor does taking away what h has not
pub losing-meets : (s : ℕ) (l : List ℕ) (h : ℕ) → ¬ (T (shares h s)) → Meets h (losing s l) ↔ Meets h l
losing-meets s l h n = (
  (λ m o k. (shares-without h o s n).0 (m (without o s) ((losing-law s l (without o s)).1 (o, k, refl)))),
  λ m o k. let p = (losing-law s l o).0 k in subst⁻¹ (λ (z : ℕ). T (shares h z)) p.2 ((shares-without h p.0 s n).1 (m p.0 p.1)),
)
