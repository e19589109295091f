-- The rules for open sets say that a row of them is good as `meaning` has it. Assumes nothing.
use mathlib.Core.Path.{refl, sym, ◌∙◌, subst, subst⁻¹}
use mathlib.Core.Bool.{Bool, not}
use mathlib.Core.List.{List, [], ◌∷◌}
use mathlib.Core.Logic.{◌↔◌, ◌≢◌, inl, inr, ⊎_elim}
use Prim.Native.Nat.{ℕ, ◌^◌, ◌<◌}
use native.Mathlib.Omega.{arith}
use lib.Dec.{T, T_not, not_T, eqb, eqb→eq, ltb→lt, lt→ltb}
use Rattle.roles.specs.Sets.{all_below, shares, part_of}
use Rattle.roles.proofs.Tests.{T_and}
use Rattle.roles.proofs.Laws.{part_of-le, leb-all_below}
use Rattle.meaning.specs.Lists.{Mem, Ascending}
use Rattle.meaning.specs.Rows.{Good}
use Rattle.meaning.proofs.OpenLaws.{free-empty}
use Rattle.meaning.proofs.ListLaws.{none-law}
use Rattle.opens.specs.Opens.{all_of, below_first, open_rules, opens_good}

-- ---- all rules of a list

abbrev pub Hold : List Bool → Type 0
Hold [] = Unit {0}
Hold (b ∷ bs) = T b × Hold bs

pub all_of-law : (bs : List Bool) → T (all_of bs) ↔ Hold bs
all_of-law [] = ((λ h. tt), (λ h. tt))
all_of-law (b ∷ bs) = (
  (λ h. let p = (T_and b (all_of bs)).0 h in (p.0, (all_of-law bs).0 p.1)),
  λ p. (T_and b (all_of bs)).1 (p.0, (all_of-law bs).1 p.1),
)

pub nonzero : (x : ℕ) → T (not (eqb x 0)) ↔ (x ≢ 0)
nonzero x = (
  (λ h e. T_not (eqb x 0) h (subst⁻¹ (λ (y : ℕ). T (eqb y 0)) e tt)),
  λ n. not_T (eqb x 0) (λ t. n (eqb→eq x 0 t)),
)

-- ---- the open sets of a row

module _ (n d : ℕ) where
  ascending-first : (o : ℕ) (l : List ℕ) → T (below_first o l) → Ascending l → (y : ℕ) → Mem y l → o < y
  ascending-first o [] h r y m = absurd m
  ascending-first o (x ∷ l) h r y m = let b = ltb→lt o x h in ⊎_elim (λ e. omega arith) (λ k. let c = r.0 y k in omega arith) m

  first-ascending : (o : ℕ) (l : List ℕ) → ((y : ℕ) → Mem y l → o < y) → T (below_first o l)
  first-ascending o [] f = tt
  first-ascending o (x ∷ l) f = lt→ltb o x (f x (inl refl))

  pub opens_good-law : (l : List ℕ) → d < 2 ^ n → T (opens_good (all_below n) d l) ↔ Good n (record { denied = d; opens = l })
  unfolding opens_good
  opens_good-law [] b = (
    (λ h. record { denied-below = b; below = λ o m. absurd m; nonempty = λ o m. absurd m; apart-from-denied = λ o m. absurd m; free = free-empty }),
    λ g. tt,
  )
  opens_good-law (o ∷ l) b = (
    (λ h.
        let p = (T_and (opens_good (all_below n) d l) (all_of (open_rules (all_below n) d o l))).0 h in
        let g = (opens_good-law l b).0 p.0 in
        let r = (all_of-law (open_rules (all_below n) d o l)).0 p.1 in
        let above = ascending-first o l r.1.1.1.0 g.free.ascending in
        let alone = (none-law (part_of o) l).0 r.1.1.1.1.0 in
        record {
          denied-below = b;
          below = λ x. ⊎_elim (λ e. subst⁻¹ (λ (z : ℕ). z < 2 ^ n) e ((leb-all_below n o).0 r.1.0)) (g.below x);
          nonempty = λ x. ⊎_elim (λ e. subst⁻¹ (λ (z : ℕ). z ≢ 0) e ((nonzero o).0 r.0)) (g.nonempty x);
          apart-from-denied = λ x. ⊎_elim (λ e. subst⁻¹ (λ (z : ℕ). ¬ (T (shares z d))) e (T_not (shares o d) r.1.1.0)) (g.apart-from-denied x);
          free = record {
            ascending = (above, g.free.ascending);
            no_part = λ x y mx my t. ⊎_elim
                (λ ex. ⊎_elim
                (λ ey. ex ∙ sym ey)
                (λ ky. absurd (T_not (part_of o y) (alone y ky) (subst (λ (z : ℕ). T (part_of z y)) ex t)))
                my)
                (λ kx. ⊎_elim
                (λ ey. let le = part_of-le x y t in let lt = above x kx in absurd (let z : ⊥ = omega arith in z))
                (λ ky. g.free.no_part x y kx ky t)
                my)
                mx;
          };
        }),
    λ g.
        let rest : Good n (record { denied = d; opens = l }) = record {
          denied-below = b;
          below = λ x m. g.below x (inr m);
          nonempty = λ x m. g.nonempty x (inr m);
          apart-from-denied = λ x m. g.apart-from-denied x (inr m);
          free = record { ascending = g.free.ascending.1; no_part = λ x y mx my. g.free.no_part x y (inr mx) (inr my) };
        } in
        (T_and (opens_good (all_below n) d l) (all_of (open_rules (all_below n) d o l))).1 (
          (opens_good-law l b).1 rest,
          (all_of-law (open_rules (all_below n) d o l)).1 (
            (nonzero o).1 (g.nonempty o (inl refl)),
            (
              (leb-all_below n o).1 (g.below o (inl refl)),
              (
                not_T (shares o d) (g.apart-from-denied o (inl refl)),
                (
                  first-ascending o l g.free.ascending.0,
                  (
                    (none-law (part_of o) l).1 (λ y m. not_T (part_of o y) (λ t.
                        let e = g.free.no_part o y (inl refl) (inr m) t in let lt = g.free.ascending.0 y m in let z : ⊥ = omega arith in z)),
                    tt,
                  ),
                ),
              ),
            ),
          ),
        ),
  )
