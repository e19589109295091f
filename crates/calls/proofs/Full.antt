-- 0 exactly when some good area leaves possible what is possible after the event; 7 and 8 where none does. Assumes nothing.
use mathlib.Core.Path.{◌≡◌, refl, sym, ap, ◌∙◌, subst, subst⁻¹}
use mathlib.Core.Bool.{Bool, true, false, not, cond}
use mathlib.Core.List.{List, [], ◌∷◌, ◌++◌}
use mathlib.Core.Logic.Iff
use mathlib.Core.Logic.{◌↔◌, ◌≢◌, inl, inr, ⊎_elim}
use Prim.Native.Nat.{ℕ, ◌≤◌}
use native.Mathlib.Decide.{ℕ_discrete}
use native.Mathlib.Omega.{arith}
use lib.Dec.{T, eqb, leb, le→leb}
use lib.ListN.{length}
use Rattle.roles.proofs.Tests.{T?, T_true, T_false, unlike}
use Rattle.meaning.specs.declared.Happening.{Happening}
use Rattle.meaning.specs.Events.{known, Effect, Possible, is_reply}
use Rattle.meaning.specs.States.{Numbered, numbered, due}
use Rattle.meaning.specs.Rows.{Row, blank, Leaves, Good, most_opens, fits, contradicts, step}
use Rattle.meaning.proofs.Answers.{fits-law}
use Rattle.meaning.proofs.Trails.{possible-then}
use Rattle.meaning.proofs.States.{possible-in, timely-later, timely-then, happenings-then, due-follows, due-later}
use Rattle.meaning.proofs.Verdicts.{largest, largest-left}
use Rattle.meaning.proofs.Theorems.{step-leaves, contradicts-law, step-good, canonical}
use Rattle.meaning.specs.Kinds.{happened}
use Rattle.area.specs.Layout.{most_rows}
use Rattle.area.specs.State.{State, Entry, in_policy, GoodState, is_blank, row_for, put, with_row, area_of}
use Rattle.area.proofs.RowLaws.{hit-law, hit?, row_for-good, row_for-few, row_for-put-same, row_for-put-other, put-good, length-put-new, rows_ext}
use Rattle.calls.specs.Calls.{Out, stays, writes, valid, fits_in, event_of, last_kind}
use Rattle.calls.specs.Histories.{Trail, longer, Past, roles, policy, trail, PossibleOn}
use Rattle.calls.specs.Demands as demands
use Rattle.calls.proofs.CallLaws.{valid-law, fits_in-policy, fits_in-over, fits_in-blank, fits_in-room, event_on, event-contradicts, event-unfit, event-recorded, unfit-answer}
use Rattle.calls.proofs.Outcomes.{put-state, event-is}
use Rattle.calls.proofs.Invariant.{holds, trail_on-recorded, trail_on-other}
use Rattle.calls.proofs.Decisions.{in-time, told, came}

-- ---- an event about p that is due

pub rows-good : (n : ℕ) (s : State) → GoodState s → s.roles ≡ n → (q : ℕ) → Good n (row_for q s.rows)
rows-good n s g r q = subst (λ (m : ℕ). Good m (row_for q s.rows)) r (row_for-good s.roles 0 q s.rows g.good-rows)

module _ (h : Past) (p : ℕ) (v : T (valid p)) (e : Numbered) (kn : T (known (roles h) e.happening)) (now : e.state ≡ due e.happening (policy h)) where
  abbrev n : ℕ
  n = roles h

  abbrev s : State
  s = (holds h).state

  abbrev good : GoodState (holds h).state
  good = (holds h).good

  abbrev count : (holds h).state.roles ≡ roles h
  count = (holds h).same_roles

  abbrev f : Happening
  f = e.happening

  -- the row of p before the event, and after it
  abbrev w : Row
  w = row_for p (holds h).state.rows

  abbrev w' : Row
  w' = step e.happening (row_for p (holds h).state.rows)

  -- what is possible after the event
  abbrev P : ℕ → ℕ → Type 0
  P = demands.PossibleWith h p e

  w-good : Good n w
  w-good = rows-good n s good count p

  -- the row after the event leaves what is possible after it; the other rows leave what they left
  stepped : (x : ℕ) → Leaves n w' x ↔ P p x
  stepped x = subst⁻¹ (λ (t : Trail). Leaves n w' x ↔ PossibleOn n t e.state x) (trail_on-recorded p p e (trail h p) refl)
      (Iff.trans (step-leaves n w f w-good kn x) (Iff.trans {B = Effect (Possible n (told h p)) f x}
      ((λ y. (y.0, (came h p y.0).0 y.1, y.2, y.3)), (λ y. (y.0, (came h p y.0).1 y.1, y.2, y.3)))
      (Iff.trans (Iff.symm (possible-then n (told h p) f x)) (subst (λ (es : List Happening). Possible n es x ↔ PossibleOn n (longer e (trail h p)) e.state x) (happenings-then (trail h p).events e)
      (Iff.symm (possible-in n (trail h p).since ((trail h p).events ++ e ∷ []) e.state (timely-then (trail h p).since (trail h p).events (policy h) e (in-time h p) (due-follows e (policy h) now)) x))))))

  other : (q x : ℕ) → p ≢ q → Leaves n (row_for q s.rows) x ↔ P q x
  other q x d = subst⁻¹ (λ (t : Trail). Leaves n (row_for q s.rows) x ↔ PossibleOn n t e.state x) (trail_on-other q p e 0 (trail h q) d)
      (Iff.trans (came h q x) (Iff.symm (possible-in n (trail h q).since (trail h q).events e.state
      (timely-later (trail h q).since (trail h q).events (policy h) e.state (in-time h q) (let z = due-later f (policy h) in omega arith)) x)))

  -- where the event contradicts the row, nothing is possible after it
  nothing : T (contradicts f w) → (x : ℕ) → ¬ (P p x)
  nothing c x y = let z = (step-leaves n w f w-good kn x).0 ((stepped x).1 y) in (contradicts-law n w f w-good kn).0 c z.0 z.1 z.2

  -- and no area leaves nothing possible
  nothing-unsayable : ((x : ℕ) → ¬ (P p x)) → ¬ (demands.Sayable n P)
  nothing-unsayable f y =
      let u : Row = row_for p y.0.rows in
      f (largest n u) ((y.3 p v (largest n u)).0 (largest-left n u (rows-good n y.0 y.1 y.2 p)))

  module _ (agreed : T (not (contradicts f w))) where
    w'-good : Good n w'
    w'-good = step-good n w f w-good kn agreed

    something : (x : ℕ) × P p x
    something = (largest n w', (stepped (largest n w')).0 (largest-left n w' w'-good))

    -- the area with the row after the event says it
    fits_said : fits_in s p w' ≡ true → demands.Sayable n P
    fits_said f = (
      with_row s p w',
      put-state s good p v w' (subst⁻¹ (λ (m : ℕ). Good m w') count w'-good) (subst⁻¹ T f tt),
      count,
      λ q ok x. elim (ℕ_discrete p q) [
        | yes d ↦ subst (λ (j : ℕ). Leaves n (row_for j (put p w' s.rows)) x ↔ P j x) d
            (subst⁻¹ (λ (u : Row). Leaves n u x ↔ P p x) (row_for-put-same s.roles 0 p w' s.rows good.good-rows) (stepped x))
        | no d ↦ subst⁻¹ (λ (u : Row). Leaves n u x ↔ P q x) (row_for-put-other p q w' s.rows d) (other q x d)
      ],
    )

    -- an area that says it has these rows, and so has room for them
    module _ (y : demands.Sayable n P) where
      own : row_for p y.0.rows ≡ w'
      own = canonical n (row_for p y.0.rows) w' (rows-good n y.0 y.1 y.2 p) w'-good (λ x. Iff.trans (y.3 p v x) (Iff.symm (stepped x)))

      few : length w'.opens ≤ most_opens
      few = subst (λ (u : Row). length u.opens ≤ most_opens) own (row_for-few y.0.roles 0 p y.0.rows y.1.good-rows)

      same_rows : y.0.rows ≡ put p w' s.rows
      same_rows =
          let b = (valid-law p).0 v in
          rows_ext y.0.roles s.roles 0 y.0.rows (put p w' s.rows) y.1.good-rows
          (put-good s.roles 0 p w' s.rows good.good-rows b.0 b.1
          (λ z. record { good = subst⁻¹ (λ (m : ℕ). Good m w') count w'-good; says = subst⁻¹ (λ (x : Bool). T (not x)) z tt; few = few }))
          (λ q a c. elim (ℕ_discrete p q) [
            | yes d ↦ subst (λ (j : ℕ). row_for j y.0.rows ≡ row_for j (put p w' s.rows)) d (own ∙ sym (row_for-put-same s.roles 0 p w' s.rows good.good-rows))
            | no d ↦ canonical n (row_for q y.0.rows) (row_for q s.rows) (rows-good n y.0 y.1 y.2 q) (rows-good n s good count q)
                (λ x. Iff.trans (y.3 q ((valid-law q).1 (a, c)) x) (Iff.symm (other q x d)))
                ∙ sym (row_for-put-other p q w' s.rows d)
          ])

      said_fits : fits_in s p w' ≡ true
      said_fits =
          let room : length (put p w' s.rows) ≤ most_rows = subst (λ (es : List Entry). length es ≤ most_rows) same_rows y.1.most-rows in
          let f : fits w' ≡ true = T_true (fits w') ((fits-law w').1 few) in
          ⊎_elim
          (λ z. fits_in-over s p w' f ((hit-law s.roles 0 p s.rows good.good-rows).0 z))
          (λ z. ⊎_elim
          (λ b. fits_in-blank s p w' f (T_true (is_blank w') b))
          (λ b. fits_in-room s p w' f (omega (arith, length-put-new p w' s.rows z (T_false (is_blank w') b))))
          (T? (is_blank w')))
          (hit? p s.rows)

  -- the answer to the event, where b is the one that a row that does not fit gets
  said : (b : ℕ) → T (not (eqb 0 b)) → T (not (eqb 6 b)) → (cond (is_reply f) (stays 7 (area_of s)) (writes 8 (with_row (in_policy e.state s) p blank))).answer ≡ b
      → demands.Said n p P (event_on (area_of s) (in_policy e.state s) p f w).answer b
  said b x y z = go (contradicts f w) refl (fits_in s p w') refl
    where
      s' : State
      s' = in_policy e.state s

      is : (o : Out) → event_on (area_of s) s' p f w ≡ o → demands.Said n p P o.answer b → demands.Said n p P (event_on (area_of s) s' p f w).answer b
      is o q r = subst⁻¹ (λ (u : Out). demands.Said n p P u.answer b) q r

      go : (c : Bool) → contradicts f w ≡ c → (i : Bool) → fits_in s p w' ≡ i → demands.Said n p P (event_on (area_of s) s' p f w).answer b
      go true c i q =
          let none : (i : ℕ) → ¬ (P p i) = nothing (subst⁻¹ T c tt) in
          is (stays 6 (area_of s)) (event-contradicts (area_of s) s' p f w c) (record {
            one_of = inr (inl refl);
            recorded = (unlike tt, (λ u. absurd (nothing-unsayable none u)));
            contradiction = ((λ u. none), (λ u. refl));
            unsayable = (unlike y, (λ u. absurd (none u.0.0 u.0.1)));
          })
      go false c true q =
          let agreed : T (not (contradicts f w)) = subst⁻¹ (λ (i : Bool). T (not i)) c tt in
          is (writes 0 (with_row s' p w')) (event-recorded (area_of s) s' p f w c (fits_in-policy s e.state p w' ∙ q)) (record {
            one_of = inl refl;
            recorded = ((λ u. fits_said agreed q), (λ u. refl));
            contradiction = (unlike tt, (λ u. absurd (u (something agreed).0 (something agreed).1)));
            unsayable = (unlike x, (λ u. absurd (u.1 (fits_said agreed q))));
          })
      go false c false q =
          let agreed : T (not (contradicts f w)) = subst⁻¹ (λ (i : Bool). T (not i)) c tt in
          let not-said : ¬ (demands.Sayable n P) = λ u. let m : ◌≡◌ {A = ℕ} 0 1 = cc (said_fits agreed u) in omega arith in
          is (cond (is_reply f) (stays 7 (area_of s)) (writes 8 (with_row s' p blank))) (event-unfit (area_of s) s' p f w c (fits_in-policy s e.state p w' ∙ q)) (subst⁻¹ (λ (a : ℕ). demands.Said n p P a b) z (record {
            one_of = inr (inr refl);
            recorded = ((λ u. unlike x (sym u)), (λ u. absurd (not-said u)));
            contradiction = ((λ u. unlike y (sym u)), (λ u. absurd (u (something agreed).0 (something agreed).1)));
            unsayable = ((λ u. (something agreed, not-said)), (λ u. refl));
          }))

pub full : demands.Full
full h p i x g c =
    let k = holds h in
    let s : State = k.state in
    let f : Happening = happened i x in
    let e : Numbered = numbered f g in
    let kn : T (known s.roles f) = subst⁻¹ (λ (m : ℕ). T (known m f)) k.same_roles c.roles-known in
    let now : g ≡ due f s.policy = c.state ∙ ap (due f) (sym k.same-policy) in
    subst⁻¹ (λ (o : Out). demands.Said (roles h) p (demands.PossibleWith h p e) o.answer (demands.no_room i))
    (ap (λ (l : List ℕ). event_of l p i x g) k.same_area ∙ event-is s k.good p i x g c.permission (le→leb i last_kind c.kind) kn now c.is_state)
    (said h p c.permission e c.roles-known c.state (demands.no_room i) (other-number (leb i 1)).0 (other-number (leb i 1)).1 (unfit-answer (area_of s) (with_row (in_policy g s) p blank) i x))
  where
    other-number : (r : Bool) → T (not (eqb 0 (cond r 7 8))) × T (not (eqb 6 (cond r 7 8)))
    other-number true = (tt, tt)
    other-number false = (tt, tt)
