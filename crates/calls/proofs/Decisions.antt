-- Demand 2: over every past decide says what the trail forces, and whom to ask about, and 6 is said exactly on a contradiction. Assumes nothing.
use mathlib.Core.Path.{◌≡◌, refl, sym, ap, ap₂, ◌∙◌, subst, subst⁻¹}
use mathlib.Core.Bool.{Bool, true, false, not, cond}
use mathlib.Core.List.{List}
use mathlib.Core.Logic.Iff
use mathlib.Core.Logic.{◌↔◌}
use Prim.Native.Nat.{ℕ, ◌≤◌, ◌<◌}
use native.Mathlib.Omega.{arith}
use borrow.Author.Tests.{ne_eqb}
use lib.Dec.{T, T_not}
use Rattle.roles.specs.Sets.{most_roles, all_below, Below, part_of}
use Rattle.roles.proofs.Tests.{T_true, unlike}
use Rattle.roles.proofs.Laws.{part_of-all_below}
use Rattle.meaning.specs.declared.Happening.{Happening}
use Rattle.meaning.specs.Events.{known, Possible, Decides, AskAbout}
use Rattle.meaning.specs.States.{happenings, due}
use Rattle.meaning.specs.Rows.{Row, blank, Leaves, Good, contradicts, Decided, bare, decide, row_after}
use Rattle.meaning.specs.Says.{Says}
use Rattle.meaning.proofs.States.{possible-in, due-not-late, due-not-ahead}
use Rattle.meaning.proofs.Verdicts.{decides-same, ask-same}
use Rattle.meaning.proofs.Theorems.{row-leaves, row-decides, row-says, says_same, row-asks, ask-one, trail-contradicts}
use Rattle.meaning.specs.Kinds.{happened}
use Rattle.area.specs.Layout.{good_bytes}
use Rattle.area.specs.State.{State, GoodState, row_for, state_of, area_of}
use Rattle.area.proofs.RowLaws.{row_for-good}
use Rattle.area.proofs.Bytes.{area-good, area-state}
use Rattle.calls.specs.Calls.{valid, event_of, decide_of, Look, look_of}
use Rattle.calls.specs.Histories.{Call, opening, event, ask, forget, Trail, trail_on, trail_after, roles_after, Past, called, area, answer_to, roles, policy, trail, PossibleAfter}
use Rattle.calls.specs.Demands as demands
use Rattle.calls.proofs.CallLaws.{valid-law, decide-no-permission, decide-unknown, decide-bare, decide_asks, look-sees, look-decides, look-goes-by, look-refused}
use Rattle.calls.proofs.Outcomes.{area-is-good, decide-on}
use Rattle.calls.proofs.Invariant.{holds}
use Rattle.calls.proofs.Grounds.{unknown-event, late-event, ahead-event, demand-1}

-- the state that the area holds
module _ (h : Past) where
  abbrev held : State
  held = (holds h).state

  pub area-held : state_of (area h) ≡ held
  area-held = ap state_of (holds h).same_area ∙ area-state held (holds h).good

pub past-good : (h : Past) → T (good_bytes (area h))
past-good h = subst⁻¹ (λ (l : List ℕ). T (good_bytes l)) (holds h).same_area (area-good (holds h).state (holds h).good)

pub header : demands.Header
header h = (ap (λ (s : State). s.roles) (area-held h) ∙ (holds h).same_roles, ap (λ (s : State). s.policy) (area-held h) ∙ (holds h).same-policy)

pub in-time : demands.InTime
in-time h = (holds h).timely

pub as-it-came : demands.AsItCame
as-it-came h p = possible-in (roles h) (trail h p).since (trail h p).events (policy h) (in-time h p)

-- the happenings of a permission's trail
abbrev pub told : Past → ℕ → List Happening
told h p = happenings (trail h p).events

-- the row of a permission leaves what is possible of it
pub came : (h : Past) (p x : ℕ) → Leaves (roles h) (row_for p (holds h).state.rows) x ↔ Possible (roles h) (told h p) x
came h p x = subst⁻¹ (λ (w : Row). Leaves (roles h) w x ↔ Possible (roles h) (told h p) x) ((holds h).rows p) (row-leaves (roles h) (told h p) ((holds h).trail-recorded p) x)

pub leaves-possible : (h : Past) (p x : ℕ) → Leaves (roles h) (row_for p (holds h).state.rows) x ↔ PossibleAfter h p x
leaves-possible h p x = Iff.trans (came h p x) (Iff.symm (as-it-came h p x))

-- what decide answers
decided : (h : Past) (p s : ℕ) → T (valid p) → Below (roles h) s → decide_of (area h) p s ≡ decide (row_after blank (told h p)) s
decided h p s v b =
    let k = holds h in
    ap (λ (l : List ℕ). decide_of l p s) k.same_area
    ∙ decide-on k.state k.good p s v ((part_of-all_below k.state.roles s).1 (subst⁻¹ (λ (m : ℕ). Below m s) k.same_roles b))
    ∙ ap (λ (w : Row). decide w s) (k.rows p)

pub demand-2 : demands.Demand2
demand-2 h p s v b =
    decides-same (Possible (roles h) (told h p)) (PossibleAfter h p) s (decide_of (area h) p s).answer (λ x. Iff.symm (as-it-came h p x))
    (subst⁻¹ (λ (d : Decided). Decides (Possible (roles h) (told h p)) s d.answer) (decided h p s v b) (row-decides (roles h) (told h p) ((holds h).trail-recorded p) s b))

-- each part of the row that a look gives
pub looking : demands.Looking
looking = record {
  decides = look-decides;
  goes_by = look-goes-by;
  refused = look-refused;
  says = λ h p s v b.
      let k = holds h in
      let known-roles : T (part_of s (all_below (state_of (area h)).roles)) = (part_of-all_below (state_of (area h)).roles s).1 (subst⁻¹ (λ (m : ℕ). Below m s) (header h).0 b) in
      let row : (look_of (area h) p s).row ≡ row_for p k.state.rows =
      ap (λ (x : Look). x.row) (look-sees (area h) p s (T_true _ (past-good h)) (T_true _ v) (T_true _ known-roles)) ∙ ap (λ (x : State). row_for p x.rows) (area-held h) in
      let fair : Good (roles h) (row_for p k.state.rows) = subst (λ (n : ℕ). Good n (row_for p k.state.rows)) k.same_roles (row_for-good k.state.roles 0 p k.state.rows k.good.good-rows) in
      subst⁻¹ (Says (roles h) (PossibleAfter h p)) row
      (says_same (roles h) (Leaves (roles h) (row_for p k.state.rows)) (PossibleAfter h p) (row_for p k.state.rows) (leaves-possible h p) (row-says (roles h) (row_for p k.state.rows) fair));
}

-- what decide gives hangs on the role count, the permission's row and the session alone
decide_by : (s : State) → GoodState s → (q x : ℕ) → decide_of (area_of s) q x ≡ cond (not (valid q)) (bare 3) (cond (not (part_of x (all_below s.roles))) (bare 4) (decide (row_for q s.rows) x))
decide_by s g q x = go (valid q) refl (part_of x (all_below s.roles)) refl
  where
    go : (a : Bool) → valid q ≡ a → (b : Bool) → part_of x (all_below s.roles) ≡ b → decide_of (area_of s) q x ≡ cond (not a) (bare 3) (cond (not b) (bare 4) (decide (row_for q s.rows) x))
    go false v b k = decide-no-permission (area_of s) q x (area-is-good s g) v
    go true v false k = decide-unknown (area_of s) q x (area-is-good s g) v (ap (λ (u : State). part_of x (all_below u.roles)) (area-state s g) ∙ k)
    go true v true k = decide-on s g q x (subst⁻¹ T v tt) (subst⁻¹ T k tt)

-- ---- whom to ask about

known_of : (a b : Bool) (d : Decided) → (cond (not a) (bare 3) (cond (not b) (bare 4) d)).answer ≡ 12 → T a × T b
known_of false b d u = unlike tt u
known_of true false d u = unlike tt u
known_of true true d u = (tt, tt)

-- 12 is the answer to a permission and a session of known roles alone
undecided-known : (h : Past) (p s : ℕ) → (decide_of (area h) p s).answer ≡ 12 → T (valid p) × Below (roles h) s
undecided-known h p s u =
    let k = holds h in
    let st : State = k.state in
    let by : decide_of (area h) p s ≡ cond (not (valid p)) (bare 3) (cond (not (part_of s (all_below st.roles))) (bare 4) (decide (row_for p st.rows) s)) =
    ap (λ (l : List ℕ). decide_of l p s) k.same_area ∙ decide_by st k.good p s in
    let q = known_of (valid p) (part_of s (all_below st.roles)) (decide (row_for p st.rows) s) (sym (ap (λ (d : Decided). d.answer) by) ∙ u) in
    (q.0, subst (λ (m : ℕ). Below m s) k.same_roles ((part_of-all_below st.roles s).0 q.1))

asked : (h : Past) (p s : ℕ) → (decide_of (area h) p s).answer ≡ 12 → AskAbout (PossibleAfter h p) s (decide_of (area h) p s).role
asked h p s u =
    let k = holds h in
    let q = undecided-known h p s u in
    let e = decided h p s q.0 q.1 in
    let few : roles h ≤ most_roles = subst (λ (m : ℕ). m ≤ most_roles) k.same_roles k.good.most-roles in
    ask-same (Possible (roles h) (told h p)) (PossibleAfter h p) s (decide_of (area h) p s).role (λ x. Iff.symm (as-it-came h p x))
    (subst⁻¹ (λ (d : Decided). AskAbout (Possible (roles h) (told h p)) s d.role) e
    (row-asks (roles h) (told h p) few (k.trail-recorded p) s q.1 (sym (ap (λ (d : Decided). d.answer) e) ∙ u)))

pub whom : demands.Whom
whom = record {
  undecided = λ h p s r u.
      let asks = asked h p s u in
      (λ e. subst (AskAbout (PossibleAfter h p) s) e asks, ask-one (PossibleAfter h p) s (decide_of (area h) p s).role r asks);
  otherwise = λ l p s. ((λ e u. decide_asks l p s u e), decide-bare l p s);
}

-- ---- other permissions

-- a call about another permission leaves the role count and the trail, and of an opening it is not
pub other-stays : (c : Call) (q a n i : ℕ) (t : Trail) → ¬ (demands.About q c) → (roles_after c a n ≡ n) × (trail_after q c a i t ≡ t)
unfolding roles_after trail_after trail_on
other-stays (opening m g b) q a n i t d = absurd (d tt)
other-stays (event p k x g) q a n i t d = (refl, rw (ne_eqb p q d))
other-stays (ask p s) q a n i t d = (refl, refl)
other-stays (forget p) q a n i t d = (refl, rw (ne_eqb p q d))

module _ (h : Past) (c : Call) (q : ℕ) (d : ¬ (demands.About q c)) where
  pub other-roles : roles (called h c) ≡ roles h
  unfolding roles
  other-roles = (other-stays c q (answer_to h c) (roles h) (policy h) (trail h q) d).0

  pub other-trail : trail (called h c) q ≡ trail h q
  unfolding trail
  other-trail = (other-stays c q (answer_to h c) (roles h) (policy h) (trail h q) d).1

  pub other_row : row_for q (holds (called h c)).state.rows ≡ row_for q (holds h).state.rows
  other_row = (holds (called h c)).rows q ∙ ap (λ (t : Trail). row_after blank (happenings t.events)) other-trail ∙ sym ((holds h).rows q)

pub no_other : demands.NoOther
no_other h c q s d =
    let k = holds h in
    let k' = holds (called h c) in
    let ns : k'.state.roles ≡ k.state.roles = k'.same_roles ∙ other-roles h c q d ∙ sym k.same_roles in
    ap (λ (x : List ℕ). decide_of x q s) k'.same_area
    ∙ decide_by k'.state k'.good q s
    ∙ ap₂ {C = Decided} (λ (m : ℕ) (w : Row). cond (not (valid q)) (bare 3) (cond (not (part_of s (all_below m))) (bare 4) (decide w s))) ns (other_row h c q d)
    ∙ sym (decide_by k.state k.good q s)
    ∙ sym (ap (λ (x : List ℕ). decide_of x q s) k.same_area)

-- demand 1 has 6 exactly on a contradiction with the row that the area holds
pub contradicted : demands.Contradicted
contradicted h p i x g c =
    let k = holds h in
    let a : List ℕ = area h in
    let e : Happening = happened i x in
    let st : state_of a ≡ k.state = area-held h in
    let good : T (good_bytes a) = subst⁻¹ (λ (y : List ℕ). T (good_bytes y)) k.same_area (area-good k.state k.good) in
    let is_known : ¬ (demands.Unknown (state_of a).roles i x) = λ u. T_not (known (roles h) e) ((unknown-event (roles h) i x).1 (subst (λ (m : ℕ). demands.Unknown m i x) (header h).0 u)) c.roles-known in
    let due-now : g ≡ due e (state_of a).policy = c.state ∙ ap (due e) (sym (header h).1) in
    let not_late : ¬ (demands.Late i (state_of a).policy g) = λ u. subst T (due-not-late e (state_of a).policy g due-now) ((late-event i x (state_of a).policy g).1 u) in
    let not-ahead : ¬ (demands.Ahead i (state_of a).policy g) = λ u. subst T (due-not-ahead e (state_of a).policy g due-now c.is_state) ((ahead-event i x (state_of a).policy g).1 u) in
    let row : row_for p (state_of a).rows ≡ row_after blank (told h p) = ap (λ (y : State). row_for p y.rows) st ∙ k.rows p in
    let bad_kind : ¬ (3 < i) = λ u. let z = c.kind in omega arith in
    let six : ((event_of a p i x g).answer ≡ 6) ↔ T (contradicts e (row_for p (state_of a).rows)) =
    (((((((demand-1.event-answers a p i x g).exactly.1 (λ u. u good)).1 (λ u. u ((valid-law p).0 c.permission))).1 bad_kind).1 is_known).1 not_late).1 not-ahead).0 in
    let came = as-it-came h p in
    Iff.trans (subst (λ (w : Row). ((event_of a p i x g).answer ≡ 6) ↔ T (contradicts e w)) row six) (Iff.trans (trail-contradicts (roles h) (told h p) (k.trail-recorded p) e c.roles-known) (
      (λ f s m. f s ((came s).0 m)),
      λ f s m. f s ((came s).1 m),
    ))
