-- A row of one-role open sets: good, and as long as there are roles for it. Assumes nothing.
use mathlib.Core.Path.{◌≡◌, refl, sym, ap, ◌∙◌, subst, subst⁻¹}
use mathlib.Core.List.{List, [], ◌∷◌}
use mathlib.Core.Logic.{⊎_elim}
use Prim.Native.Nat.{ℕ, zero, suc, ◌+◌, ◌^◌, ◌<◌, ◌≤◌}
use native.Mathlib.Omega.{arith}
use lib.Dec.{T}
use lib.ListN.{length}
use lib.Pow.{pow_pos, pow-lt}
use Rattle.roles.specs.Sets.{single, part_of}
use Rattle.roles.proofs.Member.{in-single, part_of-law}
use Rattle.roles.proofs.Laws.{in⇒nonempty, in-own-single, single-below, shares-empty}
use Rattle.meaning.specs.Lists.{Mem, Ascending}
use Rattle.meaning.specs.Rows.{Good}

-- {r}, {r + 1}, ..: k of them
unfoldable pub singles : ℕ → ℕ → List ℕ
singles r zero = []
singles r (suc k) = single r ∷ singles (suc r) k

pub length-singles : (r k : ℕ) → length (singles r k) ≡ k
unfolding singles
length-singles r zero = refl
length-singles r (suc k) = ap suc (length-singles (suc r) k)

mem-singles : (r k o : ℕ) → Mem o (singles r k) → (q : ℕ) × (r ≤ q) × (q < r + k) × (o ≡ single q)
unfolding singles
mem-singles r zero o m = absurd m
mem-singles r (suc k) o m =
    ⊎_elim (λ e. (r, omega arith, omega arith, e))
    (λ m'. let p = mem-singles (suc r) k o m' in (p.0, (let h = p.1 in omega arith), (let h = p.2 in omega arith), p.3)) m

single-rises : (r q : ℕ) → r < q → single r < single q
unfolding single
single-rises r q h = pow-lt h

singles-ascending : (r k : ℕ) → Ascending (singles r k)
unfolding singles
singles-ascending r zero = tt
singles-ascending r (suc k) = (
  (λ y m. let p = mem-singles (suc r) k y m in subst⁻¹ (λ (z : ℕ). single r < z) p.3 (single-rises r p.0 (let h = p.1 in omega arith))),
  singles-ascending (suc r) k,
)

-- the only part of {q} with a role is {q}
single-part : (r q : ℕ) → T (part_of (single r) (single q)) → single r ≡ single q
single-part r q t = ap single (sym ((in-single q r).0 ((part_of-law (single r) (single q)).0 t r (in-own-single r))))

pub singles-good : (n k : ℕ) → k ≤ n → Good n (record { denied = 0; opens = singles 0 k })
singles-good n k h =
    let of = mem-singles 0 k in
    record {
      denied-below = pow_pos n;
      below = λ o m. let p = of o m in subst⁻¹ (λ (z : ℕ). z < 2 ^ n) p.3 (single-below n p.0 (let b = p.2 in omega arith));
      nonempty = λ o m. let p = of o m in subst⁻¹ (λ (z : ℕ). ¬ (z ≡ 0)) p.3 (in⇒nonempty (single p.0) p.0 (in-own-single p.0));
      apart-from-denied = λ o m. shares-empty o;
      free = record {
        ascending = singles-ascending 0 k;
        no_part = λ o x m m' t. let p = of o m in
            let q = of x m' in
            p.3 ∙ single-part p.0 q.0 (subst (λ (z : ℕ). T (part_of z (single q.0))) p.3 (subst (λ (z : ℕ). T (part_of o z)) q.3 t)) ∙ sym q.3;
      };
    }
