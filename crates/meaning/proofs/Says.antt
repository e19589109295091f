-- Each part of a good row is true by itself of the holder sets that the row leaves possible. Assumes nothing.
use mathlib.Core.Path.{◌≡◌, sym, subst}
use mathlib.Core.Logic.Iff
use mathlib.Core.Logic.{◌↔◌}
use Prim.Native.Nat.{ℕ}
use lib.Dec.{T}
use Rattle.roles.specs.Sets.{In, single, part_of}
use Rattle.roles.proofs.Member.{in-single, part_of-law, below-law, some_in}
use Rattle.roles.proofs.Laws.{single-below, part_of-trans, part_of-antisym, in-own-single, shares_at, shares-single}
use Rattle.meaning.specs.Events.{AllShare}
use Rattle.meaning.specs.Lists.{Mem}
use Rattle.meaning.specs.Rows.{Row, Leaves, Good}
use Rattle.meaning.specs.Says.{AllHave, LeastMet, Says}
use Rattle.meaning.proofs.OpenLaws.{has_part-law}
use Rattle.meaning.proofs.Verdicts.{denied-law, allowed-law}

-- to share a role with {r} is to have r
share-single : (P : ℕ → Type 0) (r : ℕ) → AllShare P (single r) ↔ AllHave P r
share-single P r = ((λ f h m. (shares-single h r).0 (f h m)), (λ f h m. (shares-single h r).1 (f h m)))

module _ (n : ℕ) (w : Row) (g : Good n w) where
  -- a set that all meet has an open set as a part
  open-part : (s : ℕ) → AllShare (Leaves n w) s → (o : ℕ) × Mem o w.opens × T (part_of o s)
  open-part s f = (has_part-law s w.opens).0 ((allowed-law n w g s).1 f)

  open-met : (o : ℕ) → Mem o w.opens → AllShare (Leaves n w) o
  open-met o m h k = k.meets o m

  open-least : (o : ℕ) → Mem o w.opens → LeastMet (Leaves n w) o
  open-least o m = record {
    met = open-met o m;
    least = λ t i f.
        let p = open-part t f in
        let e : p.0 ≡ o = g.free.no_part p.0 o p.1 m (part_of-trans p.0 t o p.2 i) in
        part_of-antisym t o i (subst (λ (x : ℕ). T (part_of x t)) e p.2);
  }

  least-open : (s : ℕ) → LeastMet (Leaves n w) s → Mem s w.opens
  least-open s l =
      let p = open-part s l.met in
      subst (λ (x : ℕ). Mem x w.opens) (l.least p.0 p.2 (open-met p.0 p.1)) p.1

  proved-open : (r : ℕ) → AllHave (Leaves n w) r → Mem (single r) w.opens
  proved-open r f =
      let p = open-part (single r) ((share-single (Leaves n w) r).1 f) in
      let q = some_in p.0 (g.nonempty p.0 p.1) in
      let e : r ≡ q.0 = (in-single r q.0).0 ((part_of-law p.0 (single r)).0 p.2 q.0 q.1) in
      let own : In p.0 r = subst (In p.0) (sym e) q.1 in
      let back : T (part_of (single r) p.0) = (part_of-law (single r) p.0).1 (λ x i. subst (In p.0) ((in-single r x).0 i) own) in
      subst (λ (x : ℕ). Mem x w.opens) (part_of-antisym p.0 (single r) p.2 back) p.1

  denied-has : (r : ℕ) → T (part_of (single r) w.denied) ↔ In w.denied r
  denied-has r = (
    (λ t. (part_of-law (single r) w.denied).0 t r (in-own-single r)),
    λ i. (part_of-law (single r) w.denied).1 (λ q j. subst (In w.denied) ((in-single r q).0 j) i),
  )

  pub row-says : Says n (Leaves n w) w
  row-says = record {
    denied = λ r. (
      (λ i. ((below-law n w.denied).0 g.denied-below r i, λ h m j. m.denies (shares_at h w.denied r j i))),
      λ f. (denied-has r).0 ((denied-law n w g (single r) (single-below n r f.0)).1 (λ h m t. f.1 h m ((shares-single h r).0 t))),
    );
    opens = λ s. (open-least s, least-open s);
    proved = λ r. ((λ m. (share-single (Leaves n w) r).0 (open-met (single r) m)), proved-open r);
  }

-- holder sets that are the same are told of alike
module _ (P Q : ℕ → Type 0) (e : (h : ℕ) → P h ↔ Q h) where
  least-same : (s : ℕ) → LeastMet P s → LeastMet Q s
  least-same s l = record { met = λ h m. l.met h ((e h).1 m); least = λ t i f. l.least t i (λ h m. f h ((e h).0 m)) }

pub says_same : (n : ℕ) (P Q : ℕ → Type 0) (w : Row) → ((h : ℕ) → P h ↔ Q h) → Says n P w → Says n Q w
says_same n P Q w e s = record {
  denied = λ r. Iff.trans (s.denied r) ((λ f. (f.0, λ h m. f.1 h ((e h).1 m))), (λ f. (f.0, λ h m. f.1 h ((e h).0 m))));
  opens = λ o. Iff.trans (s.opens o) (least-same P Q e o, least-same Q P (λ h. ((e h).1, (e h).0)) o);
  proved = λ r. Iff.trans (s.proved r) ((λ f h m. f h ((e h).1 m)), (λ f h m. f h ((e h).0 m)));
}
