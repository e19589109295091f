-- One open set more beside sets of which none is part of another: only the new one is held against each. Assumes nothing.
use mathlib.Core.Path.{◌≡◌, refl, sym, ap, ◌∙◌, subst, subst⁻¹}
use mathlib.Core.Bool.{Bool, true, false, not, cond}
use mathlib.Core.List.{List, [], ◌∷◌, ◌++◌, append-nil}
use mathlib.Core.Logic.{inl, inr, ⊎_elim}
use Prim.Native.Nat.{ℕ, ◌<◌}
use native.Mathlib.Omega.{arith}
use lib.Dec.{T, T_not, not_T}
use Rattle.roles.specs.Sets.{part_of}
use Rattle.roles.proofs.Tests.{T?, T_true, T_false}
use Rattle.roles.proofs.Laws.{part_of-trans, part_of-antisym, part_of-le}
use Rattle.meaning.specs.Lists.{Mem, keep, put}
use Rattle.meaning.specs.Rows.{Free, has_part, reduce, added}
use Rattle.meaning.proofs.ListLaws.{keep-law, keep-ascending, keep_all, keep_snoc, put-law, put-ascending, put-below, put_last, mem-snoc, ascending-ext}
use Rattle.meaning.proofs.OpenLaws.{has_part-law, no_part-law, reduce-least, reduce-ascending}

-- the sets of which x is no part
abbrev others : ℕ → List ℕ → List ℕ
others x l = keep (λ o. not (part_of x o)) l

module _ (x : ℕ) (l : List ℕ) where
  -- a set of the list is part of x, and nothing changes
  pub added-known : T (has_part x l) → added x l ≡ l
  unfolding added
  added-known t = rw (T_true (has_part x l) t)

  -- none is, and x takes its place
  pub added_new : T (not (has_part x l)) → added x l ≡ put x (others x l)
  unfolding added
  added_new t = rw (T_false (has_part x l) t)

  -- where x is part of none either, all stay
  pub added-beside : ((o : ℕ) → Mem o l → ¬ (T (part_of o x))) → ((o : ℕ) → Mem o l → ¬ (T (part_of x o))) → added x l ≡ put x l
  added-beside f g = added_new ((no_part-law x l).1 (λ o m. not_T (part_of o x) (f o m))) ∙ ap (put x) (keep_all (λ o. not (part_of x o)) l (λ o m. not_T (part_of x o) (g o m)))

-- ---- reduce, with one set more

module _ (x : ℕ) (l : List ℕ) (f : Free l) where
  -- an old set is kept, if x is no part of it but itself
  old : (y : ℕ) → Mem y l → (T (part_of x y) → x ≡ y) → Mem y (reduce (x ∷ l))
  old y m u = (reduce-least (x ∷ l) y).1 (inr m, λ o n t. ⊎_elim (λ e. e ∙ u (subst (λ (z : ℕ). T (part_of z y)) e t)) (λ k. f.no_part o y k m t) n)

  stays : T (has_part x l) → reduce (x ∷ l) ≡ l
  stays t = ascending-ext (reduce (x ∷ l)) l (reduce-ascending (x ∷ l)) f.ascending (λ y. (to y, λ m. old y m (back y m)))
    where
      part : (o : ℕ) × Mem o l × T (part_of o x)
      part = (has_part-law x l).0 t

      to : (y : ℕ) → Mem y (reduce (x ∷ l)) → Mem y l
      to y m =
          let r = (reduce-least (x ∷ l) y).0 m in
          ⊎_elim
          (λ e. subst (λ (z : ℕ). Mem z l) (r.1 part.0 (inr part.1) (subst⁻¹ (λ (z : ℕ). T (part_of part.0 z)) e part.2)) part.1)
          (λ k. k)
          r.0

      -- what is part of x is part of y, so it is y, and x is too
      back : (y : ℕ) → Mem y l → T (part_of x y) → x ≡ y
      back y m u =
          let q : part.0 ≡ y = f.no_part part.0 y part.1 m (part_of-trans part.0 x y part.2 u) in
          part_of-antisym x y u (subst (λ (z : ℕ). T (part_of z x)) q part.2)

  joins : T (not (has_part x l)) → reduce (x ∷ l) ≡ put x (others x l)
  joins t =
      ascending-ext (reduce (x ∷ l)) (put x (others x l)) (reduce-ascending (x ∷ l))
      (put-ascending x (others x l) (keep-ascending (λ o. not (part_of x o)) l f.ascending)) (λ y. (to y, back y))
    where
      to : (y : ℕ) → Mem y (reduce (x ∷ l)) → Mem y (put x (others x l))
      to y m =
          let r = (reduce-least (x ∷ l) y).0 m in
          (put-law x (others x l) y).1 (⊎_elim
          (λ e. inl e)
          (λ k. ⊎_elim (λ u. inl (sym (r.1 x (inl refl) u))) (λ u. inr ((keep-law (λ o. not (part_of x o)) l y).1 (k, u))) (T? (part_of x y)))
          r.0)

      back : (y : ℕ) → Mem y (put x (others x l)) → Mem y (reduce (x ∷ l))
      back y m = ⊎_elim
          (λ e. (reduce-least (x ∷ l) y).1 (
            inl e,
            λ o n u. ⊎_elim
                (λ q. q ∙ sym e)
                (λ k. absurd (T_not (part_of o x) ((no_part-law x l).0 t o k) (subst (λ (z : ℕ). T (part_of o z)) e u)))
                n,
          ))
          (λ k. let q = (keep-law (λ o. not (part_of x o)) l y).0 k in old y q.0 (λ u. absurd (T_not (part_of x y) q.1 u)))
          ((put-law x (others x l) y).0 m)

  -- beside sets that are free of parts only the new one need be held against each
  pub reduce-one : reduce (x ∷ l) ≡ added x l
  reduce-one = ⊎_elim (λ t. stays t ∙ sym (added-known x l t)) (λ t. joins t ∙ sym (added_new x l t)) (T? (has_part x l))

-- ---- set by set: a part is no larger as a number

module _ (x : ℕ) (l : List ℕ) (t : T (not (has_part x l))) where
  -- beside sets that are all below it x comes last
  pub added-last : ((y : ℕ) → Mem y l → y < x) → added x l ≡ l ++ x ∷ []
  added-last b =
      added-beside x l (λ o m. T_not (part_of o x) ((no_part-law x l).0 t o m)) (λ o m u. let lt = b o m in let le = part_of-le x o u in absurd (let z : ⊥ = omega arith in z))
      ∙ put_last x l b

  -- a set above x behind the others goes where x is part of it, and else stays
  module _ (o : ℕ) (h : x < o) where
    pub no_part-above : T (not (has_part x (l ++ o ∷ [])))
    no_part-above = (no_part-law x (l ++ o ∷ [])).1 (λ y m. ⊎_elim
        (λ k. (no_part-law x l).0 t y k)
        (λ e. not_T (part_of y x) (λ u. let le = part_of-le y x u in absurd (let z : ⊥ = omega arith in z)))
        ((mem-snoc l o y).0 m))

    next : (b : Bool) → part_of x o ≡ b → added x (l ++ o ∷ []) ≡ put x (others x l ++ cond (not b) (o ∷ []) [])
    next b e =
        added_new x (l ++ o ∷ []) no_part-above
        ∙ ap (put x) (keep_snoc (λ y. not (part_of x y)) l o ∙ ap (λ (c : Bool). others x l ++ cond (not c) (o ∷ []) []) e)

    pub added-drops : part_of x o ≡ true → added x (l ++ o ∷ []) ≡ added x l
    added-drops e = next true e ∙ ap (put x) (append-nil (others x l)) ∙ sym (added_new x l t)

    pub added-keeps : part_of x o ≡ false → added x (l ++ o ∷ []) ≡ added x l ++ o ∷ []
    added-keeps e = next false e ∙ put-below x o (others x l) h ∙ ap (λ (k : List ℕ). k ++ o ∷ []) (sym (added_new x l t))
