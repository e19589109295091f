-- What each call does on an area that holds a good state. Assumes nothing.
use mathlib.Core.Path.{◌≡◌, refl, ap, ◌∙◌, subst⁻¹}
use mathlib.Core.Bool.{Bool, true, false, not, cond}
use mathlib.Core.Logic.{◌≢◌, ◌⊎◌, inl, inr, ⊎_elim}
use Prim.Native.Nat.{ℕ}
use native.Mathlib.Omega.{arith}
use lib.Dec.{T, leb, leb→le}
use Rattle.roles.specs.Sets.{all_below, part_of}
use Rattle.roles.proofs.Tests.{T?, T_true, T_false}
use Rattle.meaning.specs.declared.Happening.{Happening}
use Rattle.meaning.specs.Events.{known, is_reply, last_policy_state}
use Rattle.meaning.specs.States.{Numbered, numbered, is_policy_state, due, is_late, is_ahead}
use Rattle.meaning.specs.Rows.{Row, blank, Good, fits, contradicts, step, settle, decide}
use Rattle.meaning.proofs.Kept.{step-good}
use Rattle.meaning.proofs.Answers.{settle-law, fits-law}
use Rattle.meaning.specs.Kinds.{happened}
use Rattle.meaning.proofs.States.{due-counts, due-not-late, due-not-ahead}
use Rattle.area.specs.Layout.{good_bytes}
use Rattle.area.specs.State.{State, in_policy, GoodState, row_for, with_row, state_of, area_of}
use Rattle.area.proofs.RowLaws.{row_for-good, put-good, put-most}
use Rattle.area.proofs.Bytes.{area-good, area-state}
use Rattle.calls.specs.Calls.{Out, stays, writes, valid, fits_in, event_of, decide_of, forget_of, last_kind}
use Rattle.calls.proofs.CallLaws.{valid-law, fits_in-law, event_on, event-in, event-contradicts, event-unfit, event-recorded, event-no-permission, event-bad-kind, event-unknown, event-late, event-ahead, event-counts, decide-decides, forget-no-permission, forget-forgets}

-- ---- states with another row

module _ (s : State) (g : GoodState s) (p : ℕ) (v : T (valid p)) where
  -- a row that fits gives a good state
  pub put-state : (w : Row) → Good s.roles w → T (fits_in s p w) → GoodState (with_row s p w)
  put-state w gw f =
      let b = (valid-law p).0 v in
      let q = fits_in-law s p w f in
      record {
        some-roles = g.some-roles;
        most-roles = g.most-roles;
        most-rows = put-most p w s.rows s.roles 0 g.good-rows g.most-rows q.1;
        policy-small = g.policy-small;
        good-rows = put-good s.roles 0 p w s.rows g.good-rows b.0 b.1
            (λ e. record { good = gw; says = subst⁻¹ (λ (x : Bool). T (not x)) e tt; few = (fits-law w).0 q.0 });
      }

  -- so does no row
  pub drop-state : GoodState (with_row s p blank)
  drop-state =
      let b = (valid-law p).0 v in
      record {
        some-roles = g.some-roles;
        most-roles = g.most-roles;
        most-rows = put-most p blank s.rows s.roles 0 g.good-rows g.most-rows (λ a e. absurd (let z : ◌≡◌ {A = ℕ} 0 1 = cc in let n : ⊥ = omega arith in n));
        policy-small = g.policy-small;
        good-rows = put-good s.roles 0 p blank s.rows g.good-rows b.0 b.1 (λ e. absurd (let z : ◌≡◌ {A = ℕ} 0 1 = cc in let n : ⊥ = omega arith in n));
      }

-- in another policy state it is as good
pub policy-state : (s : State) → GoodState s → (i : ℕ) → T (is_policy_state i) → GoodState (in_policy i s)
policy-state s g i b = record { some-roles = g.some-roles; most-roles = g.most-roles; most-rows = g.most-rows; policy-small = leb→le i last_policy_state b; good-rows = g.good-rows }

-- ---- events

-- an event is refused and changes nothing, is recorded, or its permission is forgotten; what is not refused is due
pub data Outcome (s : State) (p : ℕ) (e : Numbered) : Out → Type 0 where
  refused : (a : ℕ) → a ≢ 0 → a ≢ 8 → Outcome s p e (stays a (area_of s))
  recorded : e.state ≡ due e.happening s.policy → T (known s.roles e.happening) → (settle fits e.happening (row_for p s.rows)).answer ≡ 0
      → GoodState (with_row (in_policy e.state s) p (step e.happening (row_for p s.rows)))
      → Outcome s p e (writes 0 (with_row (in_policy e.state s) p (step e.happening (row_for p s.rows))))
  forgotten : e.state ≡ due e.happening s.policy → is_reply e.happening ≡ false → GoodState (with_row (in_policy e.state s) p blank)
      → Outcome s p e (writes 8 (with_row (in_policy e.state s) p blank))

pub area-is-good : (s : State) → GoodState s → good_bytes (area_of s) ≡ true
area-is-good s g = T_true (good_bytes (area_of s)) (area-good s g)

-- the area has the state's roles, and its policy state
pub known_in : (s : State) → GoodState s → (e : Happening) → known (state_of (area_of s)).roles e ≡ known s.roles e
known_in s g e = ap (λ (u : State). known u.roles e) (area-state s g)

pub late-in : (s : State) → GoodState s → (e : Happening) (i : ℕ) → is_late e (state_of (area_of s)).policy i ≡ is_late e s.policy i
late-in s g e i = ap (λ (u : State). is_late e u.policy i) (area-state s g)

pub ahead_in : (s : State) → GoodState s → (e : Happening) (i : ℕ) → is_ahead e (state_of (area_of s)).policy i ≡ is_ahead e s.policy i
ahead_in s g e i = ap (λ (u : State). is_ahead e u.policy i) (area-state s g)

-- an event that is refused neither by 3 nor 5 nor 4, and is due
pub event-is : (s : State) → GoodState s → (p k x i : ℕ) → T (valid p) → T (leb k last_kind) → T (known s.roles (happened k x)) → i ≡ due (happened k x) s.policy → T (is_policy_state i)
    → event_of (area_of s) p k x i ≡ event_on (area_of s) (in_policy i s) p (happened k x) (row_for p s.rows)
event-is s g p k x i v b kn t si =
    event-counts (area_of s) p k x i (area-is-good s g) (T_true (valid p) v) (T_true (leb k last_kind) b) (known_in s g (happened k x) ∙ T_true (known s.roles (happened k x)) kn)
    (late-in s g (happened k x) i ∙ due-not-late (happened k x) s.policy i t) (ahead_in s g (happened k x) i ∙ due-not-ahead (happened k x) s.policy i t si)
    ∙ event-in (area_of s) p (happened k x) i
    ∙ ap (λ (u : State). event_on (area_of s) (in_policy i u) p (happened k x) (row_for p u.rows)) (area-state s g)

module _ (s : State) (g : GoodState s) (p : ℕ) where
  event-on : T (valid p) → (e : Happening) (i : ℕ) → T (known s.roles e) → i ≡ due e s.policy → T (is_policy_state i) → Outcome s p (numbered e i) (event_on (area_of s) (in_policy i s) p e (row_for p s.rows))
  event-on v e i kn t si = go (contradicts e w) refl (fits_in s' p (step e w)) refl
    where
      w : Row
      w = row_for p s.rows

      s' : State
      s' = in_policy i s

      g' : GoodState s'
      g' = policy-state s g i si

      full-or-forgotten : (r : Bool) → is_reply e ≡ r → Outcome s p (numbered e i) (cond r (stays 7 (area_of s)) (writes 8 (with_row s' p blank)))
      full-or-forgotten true r = refused 7 (λ z. omega arith) (λ z. omega arith)
      full-or-forgotten false r = forgotten t r (drop-state s' g' p v)

      go : (c : Bool) → contradicts e w ≡ c → (f : Bool) → fits_in s' p (step e w) ≡ f → Outcome s p (numbered e i) (event_on (area_of s) s' p e w)
      go true x f y = subst⁻¹ (Outcome s p (numbered e i)) (event-contradicts (area_of s) s' p e w x) (refused 6 (λ z. omega arith) (λ z. omega arith))
      go false x false y = subst⁻¹ (Outcome s p (numbered e i)) (event-unfit (area_of s) s' p e w x y) (full-or-forgotten (is_reply e) refl)
      go false x true y =
          let gw = row_for-good s.roles 0 p s.rows g.good-rows in
          let no : T (not (contradicts e w)) = subst⁻¹ (λ (b : Bool). T (not b)) x tt in
          let fit : T (fits_in s' p (step e w)) = subst⁻¹ T y tt in
          subst⁻¹ (Outcome s p (numbered e i)) (event-recorded (area_of s) s' p e w x y)
          (recorded t kn ((settle-law s.roles e w gw kn).recorded.1 (no, (fits-law (step e w)).0 (fits_in-law s' p (step e w) fit).0))
          (put-state s' g' p v (step e w) (step-good s.roles w e gw kn no) fit))

  -- any numbers
  pub event-does : (k x i : ℕ) → Outcome s p (numbered (happened k x) i) (event_of (area_of s) p k x i)
  event-does k x i = go (valid p) refl (leb k last_kind) refl (known s.roles e) refl (is_late e s.policy i) refl (is_ahead e s.policy i) refl
    where
      e : Happening
      e = happened k x

      good : good_bytes (area_of s) ≡ true
      good = area-is-good s g

      no : (a : ℕ) → a ≢ 0 → a ≢ 8 → event_of (area_of s) p k x i ≡ stays a (area_of s) → Outcome s p (numbered e i) (event_of (area_of s) p k x i)
      no a y z q = subst⁻¹ (Outcome s p (numbered e i)) q (refused a y z)

      go : (v : Bool) → valid p ≡ v → (b : Bool) → leb k last_kind ≡ b → (n : Bool) → known s.roles e ≡ n → (t : Bool) → is_late e s.policy i ≡ t → (a : Bool) → is_ahead e s.policy i ≡ a
          → Outcome s p (numbered e i) (event_of (area_of s) p k x i)
      go false v b u n m t j a q = no 3 (λ z. omega arith) (λ z. omega arith) (event-no-permission (area_of s) p k x i good v)
      go true v false u n m t j a q = no 5 (λ z. omega arith) (λ z. omega arith) (event-bad-kind (area_of s) p k x i good v u)
      go true v true u false m t j a q = no 4 (λ z. omega arith) (λ z. omega arith) (event-unknown (area_of s) p k x i good v u (known_in s g e ∙ m))
      go true v true u true m true j a q = no 13 (λ z. omega arith) (λ z. omega arith) (event-late (area_of s) p k x i good v u (known_in s g e ∙ m) (late-in s g e i ∙ j))
      go true v true u true m false j true q =
          no 14 (λ z. omega arith) (λ z. omega arith) (event-ahead (area_of s) p k x i good v u (known_in s g e ∙ m) (late-in s g e i ∙ j) (ahead_in s g e i ∙ q))
      go true v true u true m false j false q =
          let d = due-counts e s.policy i j q in
          let ok : T (valid p) = subst⁻¹ T v tt in
          let kn : T (known s.roles e) = subst⁻¹ T m tt in
          subst⁻¹ (Outcome s p (numbered e i)) (event-is s g p k x i ok (subst⁻¹ T u tt) kn d.0 d.1) (event-on ok e i kn d.0 d.1)

  pub decide-on : (t : ℕ) → T (valid p) → T (part_of t (all_below s.roles)) → decide_of (area_of s) p t ≡ decide (row_for p s.rows) t
  decide-on t v b =
      let st : state_of (area_of s) ≡ s = area-state s g in
      decide-decides (area_of s) p t (area-is-good s g) (T_true (valid p) v) (ap (λ (u : State). part_of t (all_below u.roles)) st ∙ T_true (part_of t (all_below s.roles)) b)
      ∙ ap (λ (u : State). decide (row_for p u.rows) t) st

  pub forget-on : (forget_of (area_of s) p ≡ stays 3 (area_of s)) ⊎ (T (valid p) × (forget_of (area_of s) p ≡ writes 0 (with_row s p blank)))
  forget-on =
      ⊎_elim
      (λ v. inr (v, forget-forgets (area_of s) p (area-is-good s g) (T_true (valid p) v) ∙ ap (λ (u : State). writes 0 (with_row u p blank)) (area-state s g)))
      (λ v. inl (forget-no-permission (area_of s) p (area-is-good s g) (T_false (valid p) v)))
      (T? (valid p))
