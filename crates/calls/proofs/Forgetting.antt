-- What events and a forget leave on any bytes: no row after 8 and a forget, and the policy state. Assumes nothing.
use mathlib.Core.Path.{◌≡◌, refl, sym, ap, ◌∙◌, subst, subst⁻¹}
use mathlib.Core.Bool.{Bool, true, false, not, cond}
use mathlib.Core.List.{List}
use mathlib.Core.Logic.{⊎_elim}
use Prim.Native.Nat.{ℕ, suc}
use borrow.Author.Tests.{le-leb}
use lib.Dec.{T, eqb, leb}
use Rattle.roles.proofs.Tests.{unlike}
use Rattle.meaning.specs.declared.Happening.{Happening}
use Rattle.meaning.specs.Events.{known, is_reply}
use Rattle.meaning.specs.Rows.{Row, blank, contradicts, step}
use Rattle.meaning.specs.States.{due, is_late, is_ahead}
use Rattle.meaning.specs.Kinds.{happened}
use Rattle.meaning.proofs.States.{due-counts}
use Rattle.meaning.proofs.Kept.{step-good}
use Rattle.meaning.proofs.KindLaws.{reply-kind}
use Rattle.area.specs.Layout.{good_bytes}
use Rattle.area.specs.State.{State, Entry, with_rows, in_policy, GoodState, is_blank, row_for, with_row, state_of, area_of}
use Rattle.area.proofs.RowLaws.{row_for-good, Hit, hit-law, put-not, row_for-put-same}
use Rattle.area.proofs.Bytes.{area-state, good-state, good-area}
use Rattle.calls.specs.Calls.{Out, stays, writes, valid, fits_in, event_in, event_of, forget_of, last_kind}
use Rattle.calls.specs.Demands as demands
use Rattle.calls.proofs.CallLaws.{event-in, event-contradicts, event-unfit, event-recorded, event-bad-area, event-no-permission, event-bad-kind, event-unknown, event-late, event-ahead, event-counts, forget-bad-area, forget-no-permission, forget-forgets}
use Rattle.calls.proofs.Outcomes.{put-state, drop-state, policy-state}

module _ (l : List ℕ) (p : ℕ) where
  abbrev s : State
  s = state_of l

  -- the outcome o is the answer a with w as the row of p of a good area, in the policy state i
  record Wrote (o : Out) (a i : ℕ) (w : Row) : Type 0 where
    good : good_bytes l ≡ true
    ok : valid p ≡ true
    left-good : GoodState (with_row (in_policy i s) p w)
    is : o ≡ writes a (with_row (in_policy i s) p w)

  module _ (o : Out) (a i : ℕ) (w : Row) (d : Wrote o a i w) where
    left : state_of o.area ≡ with_row (in_policy i s) p w
    left = ap (λ (x : Out). state_of x.area) d.is ∙ area-state (with_row (in_policy i s) p w) d.left-good

    policy-left : (state_of o.area).policy ≡ i
    policy-left = ap (λ (u : State). u.policy) left

  module _ (o : Out) (a i : ℕ) (d : Wrote o a i blank) where
    s-good : GoodState s
    s-good = good-state l (subst⁻¹ T d.good tt)

    gone : demands.NoRow o.area p
    gone =
        ap (λ (u : State). is_blank (row_for p u.rows)) (left o a i blank d)
        ∙ ap (λ (w : Row). is_blank w) (row_for-put-same s.roles 0 p blank s.rows s-good.good-rows)

    -- no row was there to take out
    moved : demands.NoRow l p → o.area ≡ area_of (in_policy i s)
    moved none =
        let miss : ¬ (Hit p s.rows) = λ h. subst T (sym none ∙ (hit-law s.roles 0 p s.rows s-good.good-rows).0 h) tt in
        ap (λ (x : Out). x.area) d.is ∙ ap (λ (es : List Entry). area_of (with_rows (in_policy i s) es)) (put-not p blank s.rows miss refl)

  forget-drops : (forget_of l p).answer ≡ 0 → Wrote (forget_of l p) 0 (state_of l).policy blank
  forget-drops = go (good_bytes l) refl (valid p) refl
    where
      go : (b : Bool) → good_bytes l ≡ b → (v : Bool) → valid p ≡ v → (forget_of l p).answer ≡ 0 → Wrote (forget_of l p) 0 (state_of l).policy blank
      go false h v k e = unlike tt (sym (ap (λ (o : Out). o.answer) (forget-bad-area l p h)) ∙ e)
      go true h false k e = unlike tt (sym (ap (λ (o : Out). o.answer) (forget-no-permission l p h k)) ∙ e)
      go true h true k e = record { good = h; ok = k; left-good = drop-state s (good-state l (subst⁻¹ T h tt)) p (subst⁻¹ T k tt); is = forget-forgets l p h k }

  -- refusal by refusal: what is due is recorded, or does not fit
  module _ (k x g : ℕ) where
    abbrev e : Happening
    e = happened k x

    abbrev s' : State
    s' = in_policy g (state_of l)

    abbrev w : Row
    w = row_for p (state_of l).rows

    record Entered (o : Out) : Type 0 where
      due-now : o.answer ≡ 0 → g ≡ due e (state_of l).policy
      forgotten : o.answer ≡ 8 → Wrote o 8 g blank
      recorded : o.answer ≡ 0 → Wrote o 0 g (step e w)

    -- any other answer
    other : (a : ℕ) → T (not (eqb a 0)) → T (not (eqb a 8)) → Entered (stays a l)
    other a y z = record { due-now = unlike y; forgotten = unlike z; recorded = unlike y }

    event-enters : Entered (event_of l p k x g)
    event-enters = go (good_bytes l) refl (valid p) refl (leb k last_kind) refl (known s.roles e) refl (is_late e s.policy g) refl (is_ahead e s.policy g) refl
      where
        by : (o : Out) → event_of l p k x g ≡ o → Entered o → Entered (event_of l p k x g)
        by o q = subst⁻¹ Entered q

        unfit : good_bytes l ≡ true → valid p ≡ true → GoodState s' → (b : Bool) → Entered (cond b (stays 7 l) (writes 8 (with_row s' p blank)))
        unfit h v i true = other 7 tt tt
        unfit h v i false = record {
          due-now = unlike tt;
          forgotten = λ q. record { good = h; ok = v; left-good = drop-state s' i p (subst⁻¹ T v tt); is = refl };
          recorded = unlike tt;
        }

        on_row : good_bytes l ≡ true → valid p ≡ true → T (known s.roles e) → g ≡ due e s.policy → GoodState s' → event_of l p k x g ≡ event_in l p e g
            → (c : Bool) → contradicts e w ≡ c → (f : Bool) → fits_in s' p (step e w) ≡ f → Entered (event_of l p k x g)
        on_row h v n t i q true c f j = by (stays 6 l) (q ∙ event-in l p e g ∙ event-contradicts l s' p e w c) (other 6 tt tt)
        on_row h v n t i q false c true j = by (writes 0 (with_row s' p (step e w))) (q ∙ event-in l p e g ∙ event-recorded l s' p e w c j) (record {
          due-now = λ z. t;
          forgotten = unlike tt;
          recorded = λ z. record {
            good = h;
            ok = v;
            left-good = put-state s' i p (subst⁻¹ T v tt) (step e w)
                (step-good s.roles w e (row_for-good s.roles 0 p s.rows i.good-rows) n (subst⁻¹ (λ (b : Bool). T (not b)) c tt)) (subst⁻¹ T j tt);
            is = refl;
          };
        })
        on_row h v n t i q false c false j = by (cond (is_reply e) (stays 7 l) (writes 8 (with_row s' p blank))) (q ∙ event-in l p e g ∙ event-unfit l s' p e w c j) (unfit h v i (is_reply e))

        go : (a : Bool) → good_bytes l ≡ a → (b : Bool) → valid p ≡ b → (c : Bool) → leb k last_kind ≡ c → (d : Bool) → known s.roles e ≡ d
            → (t : Bool) → is_late e s.policy g ≡ t → (r : Bool) → is_ahead e s.policy g ≡ r → Entered (event_of l p k x g)
        go false h b v c u d n t i r j = by (stays 1 l) (event-bad-area l p k x g h) (other 1 tt tt)
        go true h false v c u d n t i r j = by (stays 3 l) (event-no-permission l p k x g h v) (other 3 tt tt)
        go true h true v false u d n t i r j = by (stays 5 l) (event-bad-kind l p k x g h v u) (other 5 tt tt)
        go true h true v true u false n t i r j = by (stays 4 l) (event-unknown l p k x g h v u n) (other 4 tt tt)
        go true h true v true u true n true i r j = by (stays 13 l) (event-late l p k x g h v u n i) (other 13 tt tt)
        go true h true v true u true n false i true j = by (stays 14 l) (event-ahead l p k x g h v u n i j) (other 14 tt tt)
        go true h true v true u true n false i false j =
            let d = due-counts e s.policy g i j in
            on_row h v (subst⁻¹ T n tt) d.0 (policy-state s (good-state l (subst⁻¹ T h tt)) g d.1) (event-counts l p k x g h v u n i j) (contradicts e w) refl (fits_in s' p (step e w)) refl

pub forgetting : demands.Forgetting
forgetting = record {
  event-gone = λ l p k x g a. gone l p (event_of l p k x g) 8 g ((event-enters l p k x g).forgotten a);
  forget-gone = λ l p a. gone l p (forget_of l p) 0 (state_of l).policy (forget-drops l p a);
  event-moves = λ l p k x g n a. moved l p (event_of l p k x g) 8 g ((event-enters l p k x g).forgotten a) n;
  forget-unchanged = λ l b p n a. let d = forget-drops l p a in moved l p (forget_of l p) 0 (state_of l).policy d n ∙ good-area l (subst⁻¹ T d.good tt) b;
}

pub moving : demands.Moving
moving = record {
  update = λ l p k x g many. ⊎_elim
      (λ a. policy-left l p (event_of l p k x g) 0 g (step (happened k x) (row_for p (state_of l).rows)) ((event-enters l p k x g).recorded a))
      (λ a. policy-left l p (event_of l p k x g) 8 g blank ((event-enters l p k x g).forgotten a));
  reply = λ l p k x g few a.
      let r : is_reply (happened k x) ≡ true = reply-kind k x ∙ le-leb k 1 few in
      policy-left l p (event_of l p k x g) 0 g (step (happened k x) (row_for p (state_of l).rows)) ((event-enters l p k x g).recorded a)
      ∙ (event-enters l p k x g).due-now a ∙ ap (λ (b : Bool). cond b (state_of l).policy (suc (state_of l).policy)) r;
  forget = λ l p a. policy-left l p (forget_of l p) 0 (state_of l).policy blank (forget-drops l p a);
}
