-- What the tests of open sets cite: sets that stand apart, and sets passed from the last to the first. Assumes nothing.
use mathlib.Core.Path.{◌≡◌, refl, sym, ap, ap₂, ◌∙◌, subst, subst⁻¹}
use mathlib.Core.Bool.{Bool, true, false, not, ◌&&◌, ◌||◌, and-true, and-false, and_comm}
use mathlib.Core.List.{List, [], ◌∷◌, ◌++◌}
use mathlib.Core.Logic.{◌↔◌, inl, inr, ⊎_elim}
use Prim.Native.Nat.{ℕ, zero, suc, ◌+◌, ◌-◌, ◌≤◌, ◌<◌}
use native.Mathlib.Decide.{ℕ_discrete}
use native.Mathlib.Omega.{arith}
use borrow.Author.Tests.{eq-eqb, ne_eqb}
use lib.Dec.{T, T_not, not_T, eqb, leb, lt→ltb, ltb→lt, le→leb, leb→le, eqb→eq, eqb_refl}
use lib.ListN.{length, take, drop}
use lib.Seq.{take-take}
use Rattle.words.specs.Words.{all_zero}
use Rattle.words.proofs.Runs.{drop-run}
use Rattle.roles.specs.Sets.{In, shares, part_of, joined}
use Rattle.roles.proofs.Tests.{T_and, T-ext, T_true}
use Rattle.roles.proofs.Member.{in-empty, in-joined, part_of-law, set-ext}
use Rattle.roles.proofs.Laws.{part_of-refl, part_of-trans, shares-sym, shares-empty, shares-joined}
use Rattle.meaning.specs.Lists.{Mem, any}
use Rattle.meaning.specs.Rows.{has_part, most_opens}
use Rattle.meaning.proofs.ListLaws.{none-law, mem-take}
use Rattle.meaning.proofs.Walks.{any-one}
use Rattle.opens.specs.Opens.{all_of, below_first, open_rules, opens_good, places_good}
use Rattle.opens.specs.Parts.{stand_apart, union_of, each_outside, opens_sure}
use Rattle.opens.proofs.OpenRules.{all_of-law, nonzero}

-- ---- sets that stand apart, one more behind the others

turned : (a q z h : Bool) → (not (a || q) && (z && not h)) ≡ ((not a && z) && not (q || h))
turned true q z h = refl
turned false true z h = sym (and-false z)
turned false false z h = refl

pub apart-one : (l : List ℕ) (s : ℕ) → stand_apart (l ++ s ∷ []) ≡ (stand_apart l && not (has_part s l))
unfolding stand_apart has_part any
apart-one [] s = refl
apart-one (o ∷ l) s = rw (apart-one l s, any-one (part_of o) l s) (turned (any (part_of o) l) (part_of o s) (stand_apart l) (has_part s l))

apart-take : (k : ℕ) (l : List ℕ) → T (stand_apart l) → T (stand_apart (take k l))
unfolding stand_apart
apart-take zero l t = tt
apart-take (suc k) [] t = tt
apart-take (suc k) (o ∷ l) t =
    let p = (T_and (not (any (part_of o) l)) (stand_apart l)).0 t in
    (T_and (not (any (part_of o) (take k l))) (stand_apart (take k l))).1
    ((none-law (part_of o) (take k l)).1 (λ x m. (none-law (part_of o) l).0 p.0 x (mem-take x k l m)), apart-take k l p.1)

-- of sets that stand apart, the first k do
pub apart-fewer : (k n : ℕ) (l : List ℕ) → k ≤ n → stand_apart (take n l) ≡ true → stand_apart (take k l) ≡ true
apart-fewer k n l h e = ap stand_apart (sym (take-take k n l h)) ∙ T_true (stand_apart (take k (take n l))) (apart-take k (take n l) (subst⁻¹ T e tt))

-- and where the first k do not, the whole does not
pub apart-broken : (k n : ℕ) (l : List ℕ) → k ≤ n → stand_apart (take k l) ≡ false → false ≡ stand_apart (take n l)
apart-broken k n l h e = go (stand_apart (take n l)) refl
  where
    go : (t : Bool) → stand_apart (take n l) ≡ t → false ≡ t
    go true q = sym e ∙ apart-fewer k n l h q
    go false q = refl

pub apart-first : (l : List ℕ) → stand_apart (take 1 l) ≡ true
unfolding stand_apart any
apart-first [] = refl
apart-first (o ∷ l) = refl

-- ---- sets held against the union of the later ones

mem-union : (l : List ℕ) (s : ℕ) → Mem s l → T (part_of s (union_of l))
unfolding union_of
mem-union [] s m = absurd m
mem-union (o ∷ l) s (inl e) = (part_of-law s (joined o (union_of l))).1 (λ r i. (in-joined o (union_of l) r).1 (inl (subst (λ (x : ℕ). In x r) e i)))
mem-union (o ∷ l) s (inr m) = (part_of-law s (joined o (union_of l))).1 (λ r i. (in-joined o (union_of l) r).1 (inr ((part_of-law s (union_of l)).0 (mem-union l s m) r i)))

outside-drop : (k : ℕ) (l : List ℕ) → T (each_outside l) → T (each_outside (drop k l))
unfolding each_outside
outside-drop zero l t = t
outside-drop (suc k) [] t = t
outside-drop (suc k) (o ∷ l) t = outside-drop k l ((T_and (each_outside l) (not (part_of o (union_of l)))).0 t).0

outside⇒apart : (l : List ℕ) → T (each_outside l) → T (stand_apart l)
unfolding each_outside stand_apart
outside⇒apart [] t = tt
outside⇒apart (o ∷ l) t =
    let p = (T_and (each_outside l) (not (part_of o (union_of l)))).0 t in
    (T_and (not (any (part_of o) l)) (stand_apart l)).1 (
      (none-law (part_of o) l).1 (λ s m. not_T (part_of o s) (λ q. T_not (part_of o (union_of l)) p.1 (part_of-trans o s (union_of l) q (mem-union l s m)))),
      outside⇒apart l p.0,
    )

-- o is part of u exactly when u gains nothing by it
joined_same : (o u : ℕ) → eqb (joined o u) u ≡ part_of o u
joined_same o u = T-ext (eqb (joined o u) u) (part_of o u) (
  (λ h. (part_of-law o u).1 (λ r i. subst (λ (x : ℕ). In x r) (eqb→eq (joined o u) u h) ((in-joined o u r).1 (inl i)))),
  λ h. subst⁻¹ (λ (x : ℕ). T (eqb x u)) (set-ext (joined o u) u (λ r. (
    (λ i. ⊎_elim (λ k. (part_of-law o u).0 h r k) (λ k. k) ((in-joined o u r).0 i)),
    λ i. (in-joined o u r).1 (inr i),
  ))) (eqb_refl u),
)

-- a union gains nothing by one of its sets
pub union-first : (o : ℕ) (l : List ℕ) → joined o (union_of (o ∷ l)) ≡ union_of (o ∷ l)
union-first o l = let u = union_of (o ∷ l) in eqb→eq (joined o u) u (subst⁻¹ T (joined_same o u) (mem-union (o ∷ l) o (inl refl)))

-- one set more in front, which changes the union of the later ones or not
module _ (o : ℕ) (l : List ℕ) (u b : ℕ) (e : u ≡ union_of l) (f : b ≡ joined o u) where
  part-of-later : eqb b u ≡ part_of o (union_of l)
  part-of-later = ap₂ eqb (f ∙ ap (joined o) e) e ∙ joined_same o (union_of l)

  pub outside-more : (b ≡ u → ⊥) → each_outside (o ∷ l) ≡ each_outside l
  unfolding each_outside
  outside-more h = rw (← part-of-later, ne_eqb b u h, and-true (each_outside l))

  pub outside-ends : b ≡ u → each_outside (o ∷ l) ≡ false
  unfolding each_outside
  outside-ends h = rw (← part-of-later, eq-eqb b u h, and-false (each_outside l))

-- ---- open sets from the last to the first

-- the first of l, or m where there is none
abbrev pub first_or : ℕ → List ℕ → ℕ
first_or m [] = m
first_or m (o ∷ l) = o

-- each is at most the next, and the last at most m
unfoldable pub climb : ℕ → List ℕ → Bool
climb m [] = true
climb m (o ∷ l) = climb m l && leb o (first_or m l)

-- the first is not empty
abbrev pub some_first : List ℕ → Bool
some_first [] = true
some_first (o ∷ l) = not (eqb o 0)

outside⇒some : (l : List ℕ) → T (each_outside l) → T (some_first l)
unfolding each_outside
outside⇒some [] t = tt
outside⇒some (o ∷ l) t = (nonzero o).1 (λ z. T_not (part_of o (union_of l)) ((T_and (each_outside l) (not (part_of o (union_of l)))).0 t).1
    ((part_of-law o (union_of l)).1 (λ r i. absurd (in-empty r (subst (λ (x : ℕ). In x r) z i)))))

climb-most : (m o : ℕ) (l : List ℕ) → T (climb m (o ∷ l)) → o ≤ m
unfolding climb
climb-most m o [] t = leb→le o m t
climb-most m o (p ∷ l) t =
    let q = (T_and (climb m (p ∷ l)) (leb o p)).0 t in
    let a = leb→le o p q.1 in
    let b = climb-most m p l q.0 in
    omega arith

climb-drop : (m k : ℕ) (l : List ℕ) → T (climb m l) → T (climb m (drop k l))
unfolding climb
climb-drop m zero l t = t
climb-drop m (suc k) [] t = tt
climb-drop m (suc k) (o ∷ l) t = climb-drop m k l ((T_and (climb m l) (leb o (first_or m l))).0 t).0

empty-shares-none : (d : ℕ) → T (not (shares 0 d))
empty-shares-none d = not_T (shares 0 d) (λ h. shares-empty d (shares-sym 0 d h))

-- a union shares nothing with d exactly when neither set does
union-none : (o u d : ℕ) → T (not (shares (joined o u) d)) ↔ (T (not (shares o d)) × T (not (shares u d)))
union-none o u d = (
  (λ h.
      let none = T_not (shares (joined o u) d) h in
      let either = (shares-joined d o u).1 in (
        not_T (shares o d) (λ k. none (shares-sym d (joined o u) (either (inl (shares-sym o d k))))),
        not_T (shares u d) (λ k. none (shares-sym d (joined o u) (either (inr (shares-sym u d k))))),
      )),
  λ p. not_T (shares (joined o u) d) (λ k. ⊎_elim
      (λ i. T_not (shares o d) p.0 (shares-sym d o i)) (λ i. T_not (shares u d) p.1 (shares-sym d u i))
      ((shares-joined d o u).0 (shares-sym (joined o u) d k))),
)

module _ (m d : ℕ) where
  abbrev Parts : List ℕ → Type 0
  Parts l = T (climb m l) × T (not (shares (union_of l) d)) × T (some_first l) × T (stand_apart l)

  at_most : (o : ℕ) (l : List ℕ) → T (leb o m) → T (below_first o l) → T (leb o (first_or m l))
  at_most o [] h t = h
  at_most o (p ∷ l) h t = let b = ltb→lt o p t in le→leb o p (omega arith)

  good⇒parts : (l : List ℕ) → T (opens_good m d l) → Parts l
  unfolding opens_good climb union_of stand_apart
  good⇒parts [] t = (tt, empty-shares-none d, tt, tt)
  good⇒parts (o ∷ l) t =
      let p = (T_and (opens_good m d l) (all_of (open_rules m d o l))).0 t in
      let r = (all_of-law (open_rules m d o l)).0 p.1 in
      let q = good⇒parts l p.0 in (
        (T_and (climb m l) (leb o (first_or m l))).1 (q.0, at_most o l r.1.0 r.1.1.1.0),
        (union-none o (union_of l) d).1 (r.1.1.0, q.1),
        r.0,
        (T_and (not (any (part_of o) l)) (stand_apart l)).1 (r.1.1.1.1.0, q.3),
      )

  -- a set that is at most the next, and no part of it, is below it
  below_next : (o : ℕ) (l : List ℕ) → T (leb o (first_or m l)) → T (not (any (part_of o) l)) → T (below_first o l)
  below_next o [] h t = tt
  below_next o (p ∷ l) h t =
      let b = leb→le o p h in
      let a = (none-law (part_of o) (p ∷ l)).0 t p (inl refl) in
      elim (ℕ_discrete o p) [
        | yes q ↦ absurd (T_not (part_of o p) a (subst (λ (x : ℕ). T (part_of o x)) q (part_of-refl o)))
        | no q ↦ lt→ltb o p (omega arith)
      ]

  some_next : (o : ℕ) (l : List ℕ) → T (leb o (first_or m l)) → T (not (eqb o 0)) → T (some_first l)
  some_next o [] h t = tt
  some_next o (p ∷ l) h t = let b = leb→le o p h in (nonzero p).1 (λ z. (nonzero o).0 t (omega arith))

  parts⇒good : (l : List ℕ) → Parts l → T (opens_good m d l)
  unfolding opens_good climb union_of stand_apart
  parts⇒good [] q = tt
  parts⇒good (o ∷ l) q =
      let c = (T_and (climb m l) (leb o (first_or m l))).0 q.0 in
      let u = (union-none o (union_of l) d).0 q.1 in
      let s = (T_and (not (any (part_of o) l)) (stand_apart l)).0 q.3 in
      (T_and (opens_good m d l) (all_of (open_rules m d o l))).1 (
        parts⇒good l (c.0, u.1, some_next o l c.1 q.2, s.1),
        (all_of-law (open_rules m d o l)).1 (q.2, (le→leb o m (climb-most m o l q.0), (u.0, (below_next o l c.1 s.0, (s.0, tt))))),
      )

  -- good open sets climb, share nothing with d, have a first that is not empty, and stand apart
  pub opens-parts : (l : List ℕ) → (((climb m l && not (shares (union_of l) d)) && some_first l) && stand_apart l) ≡ opens_good m d l
  opens-parts l =
      let c = climb m l in
      let u = not (shares (union_of l) d) in
      T-ext (((c && u) && some_first l) && stand_apart l) (opens_good m d l) (
        (λ h.
            let a = (T_and ((c && u) && some_first l) (stand_apart l)).0 h in
            let b = (T_and (c && u) (some_first l)).0 a.0 in
            let k = (T_and c u).0 b.0 in
            parts⇒good l (k.0, k.1, b.1, a.1)),
        λ h.
            let q = good⇒parts l h in
            (T_and ((c && u) && some_first l) (stand_apart l)).1 ((T_and (c && u) (some_first l)).1 ((T_and c u).1 (q.0, q.1), q.2), q.3),
      )

  -- where the sets from number k on do not climb, the sets are not good
  pub opens-fall : (k : ℕ) (l : List ℕ) → climb m (drop k l) ≡ false → false ≡ opens_good m d l
  opens-fall k l h = T-ext false (opens_good m d l) ((λ t. absurd t), λ t. subst T h (climb-drop m k l (good⇒parts l t).0))

  -- nor where they do not stand apart
  pub opens-touch : (l : List ℕ) → stand_apart l ≡ false → false ≡ opens_good m d l
  opens-touch l h = T-ext false (opens_good m d l) ((λ t. absurd t), λ t. subst T h (good⇒parts l t).3)

  -- what is left to test of sets that climb
  pub opens-compared : (l : List ℕ) → 0 < length l → climb m l ≡ true
      → ((not (shares (union_of l) d) && not (eqb (first_or m l) 0)) && stand_apart l) ≡ opens_good m d l
  opens-compared [] h c = absurd (omega arith)
  opens-compared (o ∷ l) h c = rw (← opens-parts (o ∷ l), c)

  pub sure-falls : (k : ℕ) (l : List ℕ) → climb m (drop k l) ≡ false → false ≡ opens_sure m d l
  unfolding opens_sure
  sure-falls k l h = ap (λ (b : Bool). b && each_outside l) (opens-fall k l h)

  pub sure-ends : (k : ℕ) (l : List ℕ) → each_outside (drop k l) ≡ false → false ≡ opens_sure m d l
  unfolding opens_sure
  sure-ends k l h = sym (ap (λ (b : Bool). opens_good m d l && b) (T-ext (each_outside l) false ((λ t. subst T h (outside-drop k l t)), λ t. absurd t)) ∙ and-false (opens_good m d l))

  pub sure-made : (l : List ℕ) → climb m l ≡ true → each_outside l ≡ true → not (shares (union_of l) d) ≡ opens_sure m d l
  unfolding opens_sure
  sure-made l c u =
      rw (← opens-parts l, c, u, T_true (some_first l) (outside⇒some l (subst⁻¹ T u tt)), T_true (stand_apart l) (outside⇒apart l (subst⁻¹ T u tt)))
      (sym (and-true ((not (shares (union_of l) d) && true) && true) ∙ and-true (not (shares (union_of l) d) && true) ∙ and-true (not (shares (union_of l) d))))

-- sets that are surely good are good
pub sure-good : (m d : ℕ) (l : List ℕ) → opens_sure m d l ≡ true → true ≡ opens_good m d l
unfolding opens_sure
sure-good m d l h = sym (T_true (opens_good m d l) ((T_and (opens_good m d l) (each_outside l)).0 (subst⁻¹ T h tt)).0)

-- ---- the places of a row

-- the tests of the places from number `at` on
pub places-tests : (m d c at : ℕ) (ws : List ℕ) → c ≤ most_opens → {zeros opens : Bool} → zeros ≡ all_zero (take (most_opens - c) (drop (at + c) ws))
    → opens ≡ opens_good m d (take c (drop at ws)) → (zeros && opens) ≡ places_good m d c (take most_opens (drop at ws))
unfolding places_good
places-tests m d c at ws h ez eo =
    ap₂ (λ (x y : Bool). x && y) (ez ∙ ap all_zero (sym (drop-run most_opens at c ws h))) (eo ∙ ap (opens_good m d) (sym (take-take c most_opens (drop at ws) h)))
    ∙ and_comm (all_zero (drop c (take most_opens (drop at ws)))) (opens_good m d (take c (take most_opens (drop at ws))))
