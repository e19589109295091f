-- Each step changes the possible holder sets exactly as its event does. Assumes nothing.
use mathlib.Core.Path.{◌≡◌, refl, subst, subst⁻¹}
use mathlib.Core.List.{◌∷◌}
use mathlib.Core.Logic.{◌↔◌, inl, inr, ⊎_elim}
use Prim.Native.Nat.{ℕ, ◌^◌, ◌≤◌, ◌<◌}
use native.Mathlib.Omega.{arith}
use lib.Dec.{T, T_not, not_T}
use lib.Pow.{pow_mono}
use Rattle.roles.specs.Sets.{In, single, Below, joined, without, shares}
use Rattle.roles.proofs.Tests.{T?}
use Rattle.roles.proofs.Member.{in?, in-single, in-joined, in_without, set-ext, shares-law}
use Rattle.roles.proofs.Laws.{in-own-single, single-below, below-single, part_of-all_below, shares_at, shares-single, shares-joined, shares-without, joined-below, without-below, without-apart}
use Rattle.meaning.specs.Events.{roles_in, known, agrees, after, Effect}
use Rattle.meaning.specs.Lists.{Mem}
use Rattle.meaning.specs.Rows.{Row, Leaves, Good, losing, denying, allowing, clearing, giving, withdrawing, step}
use Rattle.meaning.proofs.OpenLaws.{apart-law, reduce-meets, losing-meets}
use Rattle.meaning.specs.declared.Happening.{Happening}
use Rattle.meaning.specs.declared.Happening.TheVariants.{Allow, Deny, Given, Withdrawn}

-- ---- a reply

pub allowing-leaves : (n s : ℕ) (w : Row) (h : ℕ) → Leaves n (allowing s w) h ↔ (Leaves n w h × T (shares h s))
unfolding allowing
allowing-leaves n s w h =
    let x = without s w.denied in (
      (λ m. let all = (reduce-meets (x ∷ w.opens) h).0 m.meets in (
        record { holder = m.holder; denies = m.denies; meets = λ o k. all o (inr k) },
        (shares-without h s w.denied m.denies).0 (all x (inl refl)),
      )),
      λ p. let m = p.0 in record {
        holder = m.holder;
        denies = m.denies;
        meets = (reduce-meets (x ∷ w.opens) h).1 (λ o. ⊎_elim
            (λ e. subst⁻¹ (λ (z : ℕ). T (shares h z)) e ((shares-without h s w.denied m.denies).1 p.1))
            (m.meets o));
      },
    )

pub denying-leaves : (n s : ℕ) (w : Row) (h : ℕ) → Leaves n (denying s w) h ↔ (Leaves n w h × ¬ (T (shares h s)))
unfolding denying
denying-leaves n s w h =
    let d = w.denied in
    let l = w.opens in (
      (λ m. let ns : ¬ (T (shares h s)) = λ k. m.denies ((shares-joined h d s).1 (inr k)) in (
        record {
          holder = m.holder;
          denies = λ k. m.denies ((shares-joined h d s).1 (inl k));
          meets = (losing-meets s l h ns).0 ((reduce-meets (losing s l) h).0 m.meets);
        },
        ns,
      )),
      λ p. let m = p.0 in record {
        holder = m.holder;
        denies = λ k. ⊎_elim m.denies p.1 ((shares-joined h d s).0 k);
        meets = (reduce-meets (losing s l) h).1 ((losing-meets s l h p.1).1 m.meets);
      },
    )

-- ---- an update, on a good row

module _ (n : ℕ) (w : Row) (g : Good n w) where
  -- a role of an open set is not denied
  pub open-not-denied : (o r : ℕ) → Mem o w.opens → In o r → ¬ (In w.denied r)
  open-not-denied o r m i d = g.apart-from-denied o m (shares_at o w.denied r i d)

  -- before r was given, a holder set of now was possible without what is denied
  pub giving-leaves : (r h : ℕ) → r < n → Leaves n (giving (single r) (single r) w) h ↔ ((h₀ : ℕ) × Leaves n w h₀ × (joined h₀ (single r) ≡ h))
  unfolding giving clearing
  giving-leaves r h rn =
      let d = w.denied in
      let u = single r in
      let law = allowing-leaves n u (clearing u w) in (
        (λ m.
            let p = (law h).0 m in
            let m' = p.0 in
            let hr : In h r = (shares-single h r).0 p.1 in
            let h₀ = without h d in (
              h₀,
              record {
                holder = without-below n h d m'.holder;
                denies = without-apart h d;
                meets = λ o k. ⊎_elim
                    (λ i. shares_at h₀ o r ((in_without h d r).1 (hr, open-not-denied o r k i)) i)
                    (λ i. let q = (shares-law h o).0 (m'.meets o ((apart-law u w.opens o).1 (k, λ t. i ((shares-single o r).0 t)))) in
                    shares_at h₀ o q.0 ((in_without h d q.0).1 (q.1, open-not-denied o q.0 k q.2)) q.2)
                    (in? o r);
              },
              set-ext (joined h₀ u) h (λ q. (
                (λ i. ⊎_elim (λ j. ((in_without h d q).0 j).0) (λ j. subst (In h) ((in-single r q).0 j) hr) ((in-joined h₀ u q).0 i)),
                λ i. (in-joined h₀ u q).1 (⊎_elim
                    (λ j. inr j)
                    (λ j. inl ((in_without h d q).1 (i, λ k. m'.denies (shares_at h (without d u) q i ((in_without d u q).1 (k, j))))))
                    (in? u q)),
              )),
            )),
        λ p.
            let h₀ = p.0 in
            let m = p.1 in
            let h' = joined h₀ u in
            subst (Leaves n (giving u u w)) p.2 ((law h').1 (
              record {
                holder = joined-below n h₀ u m.holder (single-below n r rn);
                denies = λ k. let q = (shares-law h' (without d u)).0 k in
                    let c = (in_without d u q.0).0 q.2 in
                    ⊎_elim (λ j. m.denies (shares_at h₀ d q.0 j c.0)) c.1 ((in-joined h₀ u q.0).0 q.1);
                meets = λ o k. let q = (shares-law h₀ o).0 (m.meets o ((apart-law u w.opens o).0 k).0) in shares_at h' o q.0 ((in-joined h₀ u q.0).1 (inl q.1)) q.2;
              },
              (shares-single h' r).1 ((in-joined h₀ u r).1 (inr (in-own-single r))),
            )),
      )

  -- before u was withdrawn, a holder set of now was possible with those of u that were not denied
  pub withdrawing-leaves : (u h : ℕ) → u < 2 ^ n → Leaves n (withdrawing u w) h ↔ ((h₀ : ℕ) × Leaves n w h₀ × (without h₀ u ≡ h))
  unfolding withdrawing
  withdrawing-leaves u h un =
      let d = w.denied in (
        (λ m.
            let x = without u d in
            let h₀ = joined h x in
            let nd : ¬ (T (shares h d)) = λ k. m.denies ((shares-joined h d u).1 (inl k)) in
            let nu : ¬ (T (shares h u)) = λ k. m.denies ((shares-joined h d u).1 (inr k)) in (
              h₀,
              record {
                holder = joined-below n h x m.holder (without-below n u d un);
                denies = λ k. let q = (shares-law h₀ d).0 k in
                    ⊎_elim (λ i. nd (shares_at h d q.0 i q.2)) (λ i. ((in_without u d q.0).0 i).1 q.2) ((in-joined h x q.0).0 q.1);
                meets = λ o k. ⊎_elim
                    (λ t. let q = (shares-law o u).0 t in
                    shares_at h₀ o q.0 ((in-joined h x q.0).1 (inr ((in_without u d q.0).1 (q.2, open-not-denied o q.0 k q.1)))) q.1)
                    (λ t. let q = (shares-law h o).0 (m.meets o ((apart-law u w.opens o).1 (k, T_not (shares o u) t))) in
                    shares_at h₀ o q.0 ((in-joined h x q.0).1 (inl q.1)) q.2)
                    (T? (shares o u));
              },
              set-ext (without h₀ u) h (λ q. (
                (λ i. let p = (in_without h₀ u q).0 i in ⊎_elim (λ j. j) (λ j. absurd (p.1 ((in_without u d q).0 j).0)) ((in-joined h x q).0 p.0)),
                λ i. (in_without h₀ u q).1 ((in-joined h x q).1 (inl i), λ j. nu (shares_at h u q i j)),
              )),
            )),
        λ p.
            let h₀ = p.0 in
            let m = p.1 in
            let h' = without h₀ u in
            subst (Leaves n (withdrawing u w)) p.2 (record {
              holder = without-below n h₀ u m.holder;
              denies = λ k. ⊎_elim
                  (λ t. let q = (shares-law h' d).0 t in m.denies (shares_at h₀ d q.0 ((in_without h₀ u q.0).0 q.1).0 q.2))
                  (without-apart h₀ u)
                  ((shares-joined h' d u).0 k);
              meets = λ o k. let c = (apart-law u w.opens o).0 k in
                  let q = (shares-law h₀ o).0 (m.meets o c.0) in
                  shares_at h' o q.0 ((in_without h₀ u q.0).1 (q.1, λ j. c.1 (shares_at o u q.0 q.2 j))) q.2;
            }),
      )

-- ---- any event

-- the roles that a known event names lie below n
pub known-below : (n : ℕ) (e : Happening) → T (known n e) → Below n (roles_in e)
unfolding known
known-below n e = (part_of-all_below n (roles_in e)).0

-- what is known among n roles is known among more
pub known_more : (n m : ℕ) (e : Happening) → n ≤ m → T (known n e) → T (known m e)
unfolding known
known_more n m e h k = let below = known-below n e k in (part_of-all_below m (roles_in e)).1 (omega (arith, below, pow_mono h))

pub step-leaves : (n : ℕ) (w : Row) (e : Happening) → Good n w → T (known n e) → (h : ℕ) → Leaves n (step e w) h ↔ Effect (Leaves n w) e h
unfolding step agrees after roles_in
step-leaves n w (Allow s) g k h =
    let law = allowing-leaves n s.bits w in (
      (λ m. let p = (law h).0 m in (h, p.0, p.1, refl)),
      λ p. subst (Leaves n (step (Allow s) w)) p.3 ((law p.0).1 (p.1, p.2)),
    )
step-leaves n w (Deny s) g k h =
    let law = denying-leaves n s.bits w in (
      (λ m. let p = (law h).0 m in (h, p.0, not_T (shares h s.bits) p.1, refl)),
      λ p. subst (Leaves n (step (Deny s) w)) p.3 ((law p.0).1 (p.1, T_not (shares p.0 s.bits) p.2)),
    )
step-leaves n w (Given r) g k h =
    let law = giving-leaves n w g r h (below-single n r (known-below n (Given r) k)) in (
      (λ m. let p = law.0 m in (p.0, p.1, tt, p.2)),
      λ p. law.1 (p.0, p.1, p.3),
    )
step-leaves n w (Withdrawn r) g k h =
    let law = withdrawing-leaves n w g (single r) h (known-below n (Withdrawn r) k) in (
      (λ m. let p = law.0 m in (p.0, p.1, tt, p.2)),
      λ p. law.1 (p.0, p.1, p.3),
    )
