-- Good rows stay good. Assumes nothing.
use mathlib.Core.Path.{◌≡◌, ap, ◌∙◌, subst⁻¹}
use mathlib.Core.Bool.{not}
use mathlib.Core.List.{List, ◌∷◌}
use mathlib.Core.Logic.{◌≢◌, ⊎_elim}
use Prim.Native.Nat.{ℕ, ◌^◌, ◌≤◌, ◌<◌}
use native.Mathlib.Nat.{lt_of_lt_of_le}
use lib.Dec.{T, not_T}
use lib.Pow.{pow_pos, pow_mono}
use Rattle.roles.specs.Sets.{single, joined, without, shares, part_of}
use Rattle.roles.proofs.Member.{in_without, set-ext, some_in, shares-law, part_of-law, not_part-law}
use Rattle.roles.proofs.Laws.{in⇒nonempty, in-own-single, shares_at, shares-part_of, shares-joined, joined-below, without-below, without-part_of, without-apart}
use Rattle.meaning.specs.Events.{roles_in, known}
use Rattle.meaning.specs.Lists.{Mem, put}
use Rattle.meaning.specs.Rows.{Row, blank, Good, has_part, losing, apart, reduce, denying, allowing, clearing, giving, withdrawing, contradicts, step}
use Rattle.meaning.proofs.OpenLaws.{no_part-law, losing-law, apart-law, apart-free, free-empty, reduce-law, reduce-free}
use Rattle.meaning.proofs.Adding.{added-beside, reduce-one}
use Rattle.meaning.proofs.Steps.{known-below}
use Rattle.meaning.specs.declared.Happening.{Happening}
use Rattle.meaning.specs.declared.Happening.TheVariants.{Allow, Deny, Given, Withdrawn}

-- a set that may be an open set beside the denied set d
record Fit (n d o : ℕ) : Type 0 where
  below : o < 2 ^ n
  nonempty : o ≢ 0
  apart-from-denied : ¬ (T (shares o d))

pub blank-good : (n : ℕ) → Good n blank
blank-good n = record { denied-below = pow_pos n; below = λ o m. absurd m; nonempty = λ o m. absurd m; apart-from-denied = λ o m. absurd m; free = free-empty }

-- also among more roles
pub good-among : (n m : ℕ) (w : Row) → n ≤ m → Good n w → Good m w
good-among n m w h g = record {
  denied-below = lt_of_lt_of_le g.denied-below (pow_mono h);
  below = λ o i. lt_of_lt_of_le (g.below o i) (pow_mono h);
  nonempty = g.nonempty;
  apart-from-denied = g.apart-from-denied;
  free = g.free;
}

reduced-good : (n d : ℕ) (l : List ℕ) → d < 2 ^ n → ((o : ℕ) → Mem o l → Fit n d o) → Good n (record { denied = d; opens = reduce l })
reduced-good n d l b f =
    let from : (o : ℕ) → Mem o (reduce l) → Fit n d o = λ o m. f o ((reduce-law l o).0 m).0 in
    record {
      denied-below = b;
      below = λ o m. (from o m).below;
      nonempty = λ o m. (from o m).nonempty;
      apart-from-denied = λ o m. (from o m).apart-from-denied;
      free = reduce-free l;
    }

-- what is left of s without d, where s is not part of d
rest-fit : (n s d : ℕ) → s < 2 ^ n → T (not (part_of s d)) → Fit n d (without s d)
rest-fit n s d b t =
    let p = not_part-law s d t in
    record {
      below = without-below n s d b;
      nonempty = in⇒nonempty (without s d) p.0 ((in_without s d p.0).1 (p.1, p.2));
      apart-from-denied = without-apart s d;
    }

module _ (n : ℕ) (w : Row) (g : Good n w) where
  fit : (o : ℕ) → Mem o w.opens → Fit n w.denied o
  fit o m = record { below = g.below o m; nonempty = g.nonempty o m; apart-from-denied = g.apart-from-denied o m }

  pub allowing-good : (s : ℕ) → s < 2 ^ n → T (not (part_of s w.denied)) → Good n (allowing s w)
  unfolding allowing
  allowing-good s b t =
      reduced-good n w.denied (without s w.denied ∷ w.opens) g.denied-below
      (λ o. ⊎_elim (λ e. subst⁻¹ (Fit n w.denied) e (rest-fit n s w.denied b t)) (fit o))

  pub denying-good : (s : ℕ) → s < 2 ^ n → T (not (has_part s w.opens)) → Good n (denying s w)
  unfolding denying
  denying-good s b t =
      let d = w.denied in
      reduced-good n (joined d s) (losing s w.opens) (joined-below n d s g.denied-below b) (λ o m.
      let q = (losing-law s w.opens o).0 m in
      let x = q.0 in
      let rest = rest-fit n x s (g.below x q.1) ((no_part-law s w.opens).0 t x q.1) in
      subst⁻¹ (Fit n (joined d s)) q.2 (record {
        below = rest.below;
        nonempty = rest.nonempty;
        apart-from-denied = λ k. ⊎_elim
            (λ i. let p = (shares-law (without x s) d).0 i in g.apart-from-denied x q.1 (shares_at x d p.0 ((in_without x s p.0).0 p.1).0 p.2))
            rest.apart-from-denied
            ((shares-joined (without x s) d s).0 k);
      }))

  -- the open sets apart from u, beside a denied set whose other roles were denied before
  apart-good : (u d : ℕ) → d < 2 ^ n → ((o : ℕ) → Mem o w.opens → ¬ (T (shares o u)) → ¬ (T (shares o d))) → Good n (record { denied = d; opens = apart u w.opens })
  apart-good u d b f =
      let from = apart-law u w.opens in
      record {
        denied-below = b;
        below = λ o m. g.below o ((from o).0 m).0;
        nonempty = λ o m. g.nonempty o ((from o).0 m).0;
        apart-from-denied = λ o m. f o ((from o).0 m).0 ((from o).0 m).1;
        free = apart-free u w.opens g.free;
      }

  pub withdrawing-good : (u : ℕ) → u < 2 ^ n → Good n (withdrawing u w)
  unfolding withdrawing
  withdrawing-good u b =
      apart-good u (joined w.denied u) (joined-below n w.denied u g.denied-below b)
      (λ o m a k. ⊎_elim (g.apart-from-denied o m) a ((shares-joined o w.denied u).0 k))

  pub clearing-good : (u : ℕ) → Good n (clearing u w)
  unfolding clearing
  clearing-good u =
      apart-good u (without w.denied u) (without-below n w.denied u g.denied-below)
      (λ o m a k. g.apart-from-denied o m (shares-part_of o (without w.denied u) w.denied (without-part_of w.denied u) k))

-- a role that was cleared is not denied any more, so that its set can become an open set
single-not-denied : (r : ℕ) (w : Row) → T (not (part_of (single r) (clearing (single r) w).denied))
unfolding clearing
single-not-denied r w =
    not_T (part_of (single r) (without w.denied (single r)))
    (λ t. ((in_without w.denied (single r) r).0 ((part_of-law (single r) (without w.denied (single r))).0 t r (in-own-single r))).1 (in-own-single r))

-- a good row stays good where a known event does not contradict it
pub step-good : (n : ℕ) (w : Row) (e : Happening) → Good n w → T (known n e) → T (not (contradicts e w)) → Good n (step e w)
unfolding step contradicts roles_in giving
step-good n w (Allow s) g k c = allowing-good n w g s.bits (known-below n (Allow s) k) c
step-good n w (Deny s) g k c = denying-good n w g s.bits (known-below n (Deny s) k) c
step-good n w (Given r) g k c = allowing-good n (clearing (single r) w) (clearing-good n w g (single r)) (single r) (known-below n (Given r) k) (single-not-denied r w)
step-good n w (Withdrawn r) g k c = withdrawing-good n w g (single r) (known-below n (Withdrawn r) k)

-- ---- a role given

-- on a good row {r} becomes an open set beside the others, and reducing changes nothing
pub given-opens : (n r : ℕ) (w : Row) → Good n w → (giving (single r) (single r) w).opens ≡ put (single r) (apart (single r) w.opens)
unfolding giving allowing clearing
given-opens n r w g =
    let u = single r in
    let l = apart u w.opens in
    let k = clearing-good n w g u in
    let x = without u (without w.denied u) in
    let e : x ≡ u = set-ext x u (λ q. (
      (λ i. ((in_without u (without w.denied u) q).0 i).0),
      λ i. (in_without u (without w.denied u) q).1 (i, λ j. ((in_without w.denied u q).0 j).1 i),
    )) in
    -- an open set apart from r and {r} are not part of each other
    ap (λ (z : ℕ). reduce (z ∷ l)) e
    ∙ reduce-one u l k.free
    ∙ added-beside u l
    (λ o m t. let i = some_in o (k.nonempty o m) in ((apart-law u w.opens o).0 m).1 (shares_at o u i.0 i.1 ((part_of-law o u).0 t i.0 i.1)))
    (λ o m t. ((apart-law u w.opens o).0 m).1 (shares_at o u r ((part_of-law u o).0 t r (in-own-single r)) (in-own-single r)))
