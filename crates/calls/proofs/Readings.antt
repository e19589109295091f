-- The readings hold: calls about permission 5 do to the area what their events do to its one row. Assumes nothing.
use mathlib.Core.Path.{◌≡◌, refl, sym, ap, ap₂, ◌∙◌, subst, subst⁻¹}
use mathlib.Core.Bool.{Bool, true, false, cond, ◌&&◌, and-true}
use mathlib.Core.List.{List, [], ◌∷◌, map, append-nil}
use Prim.Native.Nat.{ℕ, suc, ◌≤◌, ◌<◌}
use native.Mathlib.Omega.{arith}
use borrow.Author.Tests.{lt-ltb}
use lib.Dec.{T, eqb, leb, eqb→eq, leb→le, le→leb}
use lib.ListN.{length}
use lib.Count.{count_trailing_zeros}
use Rattle.roles.specs.Sets.{single, all_below, joined, common, without, set_of, shares, part_of, lowest, outside}
use Rattle.roles.proofs.Tests.{T_and, T_true}
use Rattle.roles.proofs.Member.{in-empty, part_of-law}
use Rattle.roles.proofs.Laws.{single-below, part_of-all_below}
use Rattle.meaning.specs.declared.Happening.{Happening}
use Rattle.meaning.specs.Events.{roles_in, known, is_reply, Reply, last_policy_state}
use Rattle.meaning.specs.Rows.{Row, blank, Good, has_part, has_proper_part, losing, apart, reduce, denying, allowing, clearing, giving, withdrawing, contradicts, step, fits, Settled, overflow, settle, Decided, bare, undecided, decide}
use Rattle.meaning.specs.Lists.{any, keep, put, in_order}
use Rattle.meaning.proofs.Answers.{contradicts-reply, Case, refused, taken, no_room, dropped, case, settle-by}
use Rattle.meaning.proofs.Theorems.{settle-good, settle-fits}
use Rattle.meaning.proofs.Kept.{blank-good}
use Rattle.meaning.specs.States.{is_policy_state, due, is_late, is_ahead}
use Rattle.meaning.specs.Kinds.{happened}
use Rattle.meaning.proofs.States.{due-counts}
use Rattle.area.specs.Layout.{most_rows}
use Rattle.area.specs.State as states
use Rattle.area.specs.State.{State, Entry, opened, with_rows, in_policy, GoodState, is_blank, row_for, with_row, state_of, area_of}
use Rattle.area.proofs.Bytes.{area-state}
use Rattle.area.proofs.RowLaws.{is_blank-law, Hit, hit-law, put-not, row_for-put-same}
use Rattle.calls.specs.Calls.{Out, stays, writes, valid, fits_in, settled_in, event_of, open_of, decide_of, last_kind}
use Rattle.calls.specs.Histories.{Call, opening, event, ask, forget, out_of, after_calls}
use Rattle.calls.specs.Readings.{fresh, answers, Answered, Kept, Asks, NoRowIn, Readings}
use Rattle.calls.proofs.CallLaws.{open-law, fits_in-blank, fits_in-room, fits_in-none, event_on, event-contradicts, event-unfit, event-recorded, event-late, event-ahead, forget-forgets}
use Rattle.calls.proofs.Outcomes.{put-state, area-is-good, known_in, late-in, ahead_in, event-is, decide-on}

-- ---- a permission without a row, on any good area

empty-part : (t : ℕ) → T (part_of 0 t)
empty-part t = (part_of-law 0 t).1 (λ r h. absurd (in-empty r h))

-- a reply in the area's own state
reply-now : (s : State) (g : GoodState s) (p k x : ℕ) → T (valid p) → T (leb k last_kind) → T (known s.roles (happened k x)) → is_reply (happened k x) ≡ true
    → event_of (area_of s) p k x s.policy ≡ event_on (area_of s) s p (happened k x) (row_for p s.rows)
reply-now s g p k x v b kn r = event-is s g p k x s.policy v b kn (rw r) (le→leb s.policy last_policy_state g.policy-small)

allow-none : (s : State) → GoodState s → (p : ℕ) → T (valid p) → event_of (area_of s) p 1 0 s.policy ≡ stays 6 (area_of s)
unfolding happened known roles_in contradicts
allow-none s g p v =
    reply-now s g p 1 0 v tt (empty-part (all_below s.roles)) refl
    ∙ event-contradicts (area_of s) s p (happened 1 0) (row_for p s.rows) (T_true _ (empty-part (row_for p s.rows).denied))

module _ (s : State) (p : ℕ) (n : NoRowIn s p) where
  abbrev good : GoodState s
  good = n.good

  no_row : row_for p s.rows ≡ blank
  no_row = (is_blank-law (row_for p s.rows)).0 n.none

  decide-none : (t : ℕ) (a : Decided) → T (part_of t (all_below s.roles)) → decide blank t ≡ a → decide_of (area_of s) p t ≡ a
  decide-none t a k e = decide-on s good p t n.permission k ∙ ap (λ (w : Row). decide w t) no_row ∙ e

  miss : ¬ (Hit p s.rows)
  miss h = subst T (sym n.none ∙ (hit-law s.roles 0 p s.rows good.good-rows).0 h) tt

  -- nothing is denied, so the rows stay as they are
  deny-none : event_of (area_of s) p 0 0 s.policy ≡ stays 0 (area_of s)
  unfolding happened known roles_in contradicts has_part any fits step denying losing reduce keep in_order joined
  deny-none =
      let e : Happening = happened 0 0 in
      let same : step e blank ≡ blank = refl in
      let room : fits_in s p blank ≡ true = fits_in-blank s p blank refl refl in
      reply-now s good p 0 0 n.permission tt (empty-part (all_below s.roles)) refl
      ∙ ap (λ (w : Row). event_on (area_of s) s p e w) no_row
      ∙ event-recorded (area_of s) s p e blank refl (subst⁻¹ (λ (w : Row). fits_in s p w ≡ true) same room)
      ∙ ap (λ (w : Row). writes 0 (with_row s p w)) same
      ∙ ap (λ (es : List Entry). writes 0 (with_rows s es)) (put-not p blank s.rows miss refl)

  -- all rows are used, and this one would be new
  module _ (all : length s.rows ≡ 128) where
    -- role 0 is always known
    role-0 : T (part_of 1 (all_below s.roles))
    unfolding single
    role-0 = (part_of-all_below s.roles 1).1 (single-below s.roles 0 good.some-roles)

    no-room-for : (i : ℕ) (w : Row) → fits w ≡ true → is_blank w ≡ false → fits_in (in_policy i s) p w ≡ false
    no-room-for i w f b = fits_in-none (in_policy i s) p w f n.none b (omega arith)

    deny-full : event_of (area_of s) p 0 1 s.policy ≡ stays 7 (area_of s)
    unfolding happened known roles_in contradicts has_part any fits step denying losing reduce keep in_order joined
    deny-full =
        let e : Happening = happened 0 1 in
        reply-now s good p 0 1 n.permission tt role-0 refl
        ∙ ap (λ (w : Row). event_on (area_of s) s p e w) no_row
        ∙ event-unfit (area_of s) s p e blank refl (no-room-for s.policy (step e blank) refl refl)

    withdraw-full : s.policy < 4294967295 → event_of (area_of s) p 2 0 (suc s.policy) ≡ writes 8 (in_policy (suc s.policy) s)
    unfolding happened known roles_in single contradicts fits step withdrawing apart keep joined
    withdraw-full less =
        let e : Happening = happened 2 0 in
        let i : ℕ = suc s.policy in
        event-is s good p 2 0 i n.permission tt role-0 refl (le→leb i last_policy_state (omega arith))
        ∙ ap (λ (w : Row). event_on (area_of s) (in_policy i s) p e w) no_row
        ∙ event-unfit (area_of s) (in_policy i s) p e blank refl (no-room-for i (step e blank) refl refl)
        ∙ ap (λ (es : List Entry). writes 8 (with_rows (in_policy i s) es)) (put-not p blank s.rows miss refl)

-- no state is above the last one
never-due : (s : State) → GoodState s → s.policy ≡ 4294967295 → (p k r g : ℕ) → T (valid p) → T (leb k last_kind) → T (known s.roles (happened k r)) → is_reply (happened k r) ≡ false → T (is_policy_state g)
    → event_of (area_of s) p k r g ≡ stays 13 (area_of s)
never-due s good top p k r g v b kn u small =
    event-late (area_of s) p k r g (area-is-good s good) (T_true (valid p) v) (T_true (leb k last_kind) b) (known_in s good (happened k r) ∙ T_true (known s.roles (happened k r)) kn)
    (late-in s good (happened k r) g ∙ rw u (lt-ltb g (suc s.policy) (let z : g ≤ 4294967295 = leb→le g last_policy_state small in omega arith)))

last-state : (s : State) → GoodState s → s.policy ≡ 4294967295 → (p r g : ℕ) → T (valid p) → r < s.roles → T (is_policy_state g)
    → (event_of (area_of s) p 2 r g ≡ stays 13 (area_of s)) × (event_of (area_of s) p 3 r g ≡ stays 13 (area_of s))
unfolding happened known roles_in
last-state s good top p r g v few small =
    let kn : T (part_of (single r) (all_below s.roles)) = (part_of-all_below s.roles (single r)).1 (single-below s.roles r few) in
    (never-due s good top p 2 r g v tt kn refl small, never-due s good top p 3 r g v tt kn refl small)

-- ---- an area in the policy state i whose only row is w, of permission 5

abbrev none : ℕ → State
none i = opened 8 i

abbrev only : ℕ → Row → State
only i w = with_row (none i) 5 w

record Sound (w : Row) : Type 0 where
  good : Good 8 w
  fit : T (fits w)

blank-sound : Sound blank
unfolding fits
blank-sound = record { good = blank-good 8; fit = tt }

module _ (i : ℕ) (w : Row) where
  few : length (only i w).rows < most_rows
  unfolding states.put states.one
  few = go (is_blank w)
    where
      go : (b : Bool) → length (cond b [] (states.entry 5 w ∷ [])) < most_rows
      go true = omega arith
      go false = omega arith

  -- another row in its place
  put-again : (j : ℕ) (v : Row) → with_row (in_policy j (only i w)) 5 v ≡ only j v
  unfolding states.put states.one states.past
  put-again j v = ap (λ (es : List Entry). with_rows (none j) es) (go (is_blank w))
    where
      go : (b : Bool) → states.put 5 v (cond b [] (states.entry 5 w ∷ [])) ≡ states.one 5 v
      go true = refl
      go false = append-nil (states.one 5 v)

  fits-fits_in : (j : ℕ) (v : Row) → fits_in (in_policy j (only i w)) 5 v ≡ fits v
  unfolding fits_in
  fits-fits_in j v = rw (lt-ltb (length (only i w).rows) most_rows few) (and-true (fits v))

  only-good : T (is_policy_state i) → Sound w → GoodState (only i w)
  only-good b k =
      let g : GoodState (none i) = record { some-roles = omega arith; most-roles = omega arith; most-rows = omega arith; policy-small = leb→le i last_policy_state b; good-rows = tt } in
      put-state (none i) g 5 tt w k.good (subst⁻¹ T (fits_in-room (none i) 5 w (T_true (fits w) k.fit) (omega arith)) tt)

  its-row : row_for 5 (only i w).rows ≡ w
  its-row = row_for-put-same 8 0 5 w [] tt

  -- there is always room for one row, so an event that is due does to the area what it does to the row
  event-on-row : (e : Happening) (j : ℕ) → j ≡ due e i
      → event_on (area_of (only i w)) (in_policy j (only i w)) 5 e w ≡ writes (settle fits e w).answer (only j (settle fits e w).row)
  unfolding event_on
  event-on-row e j t =
      ap (settled_in (area_of (only i w)) (in_policy j (only i w)) 5) (settle-by (fits_in (in_policy j (only i w)) 5) fits e w (fits-fits_in j (step e w)))
      ∙ go (settle fits e w) (case fits e w)
    where
      stay : (a : ℕ) → Reply e → stays a (area_of (only i w)) ≡ writes a (only j w)
      stay a r = ap (λ (m : ℕ). writes a (only m w)) (let q : j ≡ i = t ∙ ap (λ (b : Bool). cond b i (suc i)) (T_true (is_reply e) r) in sym q)

      go : (s : Settled) → Case fits e w s → settled_in (area_of (only i w)) (in_policy j (only i w)) 5 s ≡ writes s.answer (only j s.row)
      go s (refused c) = stay 6 (contradicts-reply e w c)
      go s (taken c f) = ap (writes 0) (put-again j (step e w))
      go s (no_room r c f) = stay 7 r
      go s (dropped r f) = ap (writes 8) (put-again j blank)

-- ---- the calls of the readings

-- about 5, and refused neither by 3 nor 5 nor 4
fine : Call → Bool
fine (opening n g b) = false
fine (event p k x g) = eqb p 5 && (leb k last_kind && known 8 (happened k x))
fine (ask p s) = eqb p 5 && part_of s (all_below 8)
fine (forget p) = eqb p 5

-- what they answer in the policy state i, and what they leave: the state and the row
record Seen : Type 0 where
  answer : ℕ
  policy : ℕ
  row : Row

abbrev seen : ℕ → ℕ → Row → Seen
seen a i w = record { answer = a; policy = i; row = w }

event-seen : Happening → ℕ → ℕ → Row → Seen
event-seen e g i w = cond (is_late e i g) (seen 13 i w) (cond (is_ahead e i g) (seen 14 i w) (seen (settle fits e w).answer g (settle fits e w).row))

does : Call → ℕ → Row → Seen
does (opening n g b) i w = seen 0 i blank
does (event p k x g) i w = event-seen (happened k x) g i w
does (ask p s) i w = seen (decide w s).answer i w
does (forget p) i w = seen 0 i blank

-- the outcome o is what was seen, and leaves a sound row in a policy state
record Does (o : Out) (d : Seen) : Type 0 where
  is : o ≡ writes d.answer (only d.policy d.row)
  small : T (is_policy_state d.policy)
  sound : Sound d.row

module _ (i : ℕ) (b : T (is_policy_state i)) (w : Row) (k : Sound w) where
  row-there : (e : Happening) (g : ℕ) → event_on (area_of (only i w)) (in_policy g (only i w)) 5 e (row_for 5 (only i w).rows) ≡ event_on (area_of (only i w)) (in_policy g (only i w)) 5 e w
  row-there e g = ap (event_on (area_of (only i w)) (in_policy g (only i w)) 5 e) (its-row i w)

  event-only : (j x g : ℕ) → T (leb j last_kind && known 8 (happened j x)) → Does (event_of (area_of (only i w)) 5 j x g) (event-seen (happened j x) g i w)
  unfolding event-seen
  event-only j x g f = go (is_late e i g) refl (is_ahead e i g) refl
    where
      e : Happening
      e = happened j x

      s : State
      s = only i w

      s-good : GoodState s
      s-good = only-good i w b k

      kind : leb j last_kind ≡ true
      kind = T_true (leb j last_kind) ((T_and (leb j last_kind) (known 8 e)).0 f).0

      kn : known (state_of (area_of s)).roles e ≡ true
      kn = known_in s s-good e ∙ T_true (known 8 e) ((T_and (leb j last_kind) (known 8 e)).0 f).1

      go : (t : Bool) → is_late e i g ≡ t → (a : Bool) → is_ahead e i g ≡ a
          → Does (event_of (area_of s) 5 j x g) (cond t (seen 13 i w) (cond a (seen 14 i w) (seen (settle fits e w).answer g (settle fits e w).row)))
      go true t a q = record { is = event-late (area_of s) 5 j x g (area-is-good s s-good) refl kind kn (late-in s s-good e g ∙ t); small = b; sound = k }
      go false t true q = record { is = event-ahead (area_of s) 5 j x g (area-is-good s s-good) refl kind kn (late-in s s-good e g ∙ t) (ahead_in s s-good e g ∙ q); small = b; sound = k }
      go false t false q =
          let d = due-counts e i g t q in
          let r = (T_and (leb j last_kind) (known 8 e)).0 f in
          record {
            is = event-is s s-good 5 j x g tt r.0 r.1 d.0 d.1 ∙ row-there e g ∙ event-on-row i w e g d.0;
            small = d.1;
            sound = record { good = settle-good 8 e w k.good r.1; fit = settle-fits e w k.fit };
          }

  decide-only : (s : ℕ) → T (part_of s (all_below 8)) → decide_of (area_of (only i w)) 5 s ≡ decide w s
  decide-only s c = decide-on (only i w) (only-good i w b k) 5 s tt c ∙ ap (λ (x : Row). decide x s) (its-row i w)

  -- the row of 5 in the area
  area-row : (l : List ℕ) → l ≡ area_of (only i w) → row_for 5 (state_of l).rows ≡ w
  area-row l e = ap (λ (x : List ℕ). row_for 5 (state_of x).rows) e ∙ ap (λ (s : State). row_for 5 s.rows) (area-state (only i w) (only-good i w b k)) ∙ its-row i w

  call-does : (c : Call) → T (fine c) → Does (out_of c (area_of (only i w))) (does c i w)
  unfolding out_of fine does
  call-does (opening n g c) f = absurd f
  call-does (event p j x g) f = let q = (T_and (eqb p 5) _).0 f in rw (eqb→eq p 5 q.0) (event-only j x g q.1)
  call-does (ask p s) f =
      let q = (T_and (eqb p 5) _).0 f in
      record { is = rw (eqb→eq p 5 q.0) (ap (λ (d : Decided). stays d.answer (area_of (only i w))) (decide-only s q.1)); small = b; sound = k }
  call-does (forget p) f = record {
    is = rw (eqb→eq p 5 f) (forget-forgets (area_of (only i w)) 5 (area-is-good (only i w) (only-good i w b k)) refl
        ∙ ap (λ (s : State). writes 0 (with_row s 5 blank)) (area-state (only i w) (only-good i w b k)) ∙ ap (writes 0) (put-again i w i blank));
    small = b;
    sound = blank-sound;
  }

all_fine : List Call → Bool
all_fine [] = true
all_fine (c ∷ cs) = fine c && all_fine cs

-- the answers that the row gives, and the state and the row afterwards
told : List Call → ℕ → Row → List ℕ
told [] i w = []
told (c ∷ cs) i w = (does c i w).answer ∷ told cs (does c i w).policy (does c i w).row

left : List Call → ℕ → Row → Seen
left [] i w = seen 0 i w
left (c ∷ cs) i w = left cs (does c i w).policy (does c i w).row

record Ran (cs : List Call) (i : ℕ) (w : Row) (l : List ℕ) : Type 0 where
  says : answers cs l ≡ told cs i w
  leaves : after_calls cs l ≡ area_of (only (left cs i w).policy (left cs i w).row)
  small : T (is_policy_state (left cs i w).policy)
  sound : Sound (left cs i w).row

run : (cs : List Call) (i : ℕ) (w : Row) → T (is_policy_state i) → Sound w → T (all_fine cs) → (l : List ℕ) → l ≡ area_of (only i w) → Ran cs i w l
unfolding answers told left after_calls all_fine
run [] i w b k f l e = record { says = refl; leaves = e; small = b; sound = k }
run (c ∷ cs) i w b k f l e =
    let q = (T_and (fine c) (all_fine cs)).0 f in
    let d = call-does i b w k c q.0 in
    let n : Seen = does c i w in
    let o : out_of c l ≡ writes n.answer (only n.policy n.row) = ap (out_of c) e ∙ d.is in
    let r = run cs n.policy n.row d.small d.sound q.1 (out_of c l).area (ap (λ (x : Out). x.area) o) in
    record { says = ap₂ {C = List ℕ} (λ (a : ℕ) (m : List ℕ). a ∷ m) (ap (λ (x : Out). x.answer) o) r.says; leaves = r.leaves; small = r.small; sound = r.sound }

-- from any opening
from : (cs : List Call) → T (all_fine cs) → (l : List ℕ) → (open_of l 8 0).answer ≡ 0 → Ran cs 0 blank (fresh l)
unfolding states.put states.one
from cs f l o = run cs 0 blank tt blank-sound f (fresh l) (ap (λ (x : Out). x.area) (open-law l 8 0 o).0)

answered : (cs : List Call) (ns : List ℕ) → T (all_fine cs) → told cs 0 blank ≡ ns → Answered cs ns
answered cs ns f e l o = (from cs f l o).says ∙ e

kept : (cs : List Call) (w : Row) → T (all_fine cs) → told cs 0 blank ≡ map (λ c. 0) cs → (left cs 0 blank).row ≡ w → Kept cs w
kept cs w f a e = (answered cs (map (λ c. 0) cs) f a, λ l o. let r = from cs f l o in area-row (left cs 0 blank).policy r.small (left cs 0 blank).row r.sound (after_calls cs (fresh l)) r.leaves ∙ e)

asks : (cs : List Call) (s : List ℕ) (q : ℕ) → T (all_fine cs) → T (part_of (set_of s) (all_below 8)) → decide (left cs 0 blank).row (set_of s) ≡ undecided q → Asks cs s q
asks cs s q f b e l o =
    let r = from cs f l o in
    ap (λ (x : List ℕ). decide_of x 5 (set_of s)) r.leaves ∙ decide-only (left cs 0 blank).policy r.small (left cs 0 blank).row r.sound (set_of s) b ∙ e

pub readings : Readings
unfolding single all_below joined common without set_of shares part_of roles_in known any keep put in_order has_part has_proper_part losing apart reduce denying allowing clearing giving withdrawing contradicts step fits overflow settle lowest outside count_trailing_zeros decide happened all_fine fine told left does event-seen
readings = record {
  no-row-empty-session = λ s p n. decide-none s p n 0 (bare 10) (empty-part (all_below s.roles)) refl;
  no-row-role-0 = λ s p n. decide-none s p n 1 (undecided 0) ((part_of-all_below s.roles 1).1 (single-below s.roles 0 n.good.some-roles)) refl;
  allow-nobody = allow-none;
  deny-nobody = deny-none;
  full-deny = deny-full;
  full-withdraw = withdraw-full;
  last-state = last-state;
  no_row = answered _ _ tt refl;
  deny-nobody-kept = kept _ _ tt refl refl;
  lowest-asked = asks _ (3 ∷ 4 ∷ []) _ tt tt refl;
  withdrawn = answered _ _ tt refl;
  withdrawn-asks = asks _ (3 ∷ []) _ tt tt refl;
  denied-not-asked = asks _ (2 ∷ 3 ∷ []) _ tt tt refl;
  denied = answered _ _ tt refl;
  smaller-then-larger = kept _ _ tt refl refl;
  larger-then-smaller = kept _ _ tt refl refl;
  given = answered _ _ tt refl;
  allow-then-deny = answered _ _ tt refl;
  common-role = answered _ _ tt refl;
  common-role-asks = asks _ (2 ∷ []) _ tt tt refl;
  forgotten = answered _ _ tt refl;
  as-sent = answered _ _ tt refl;
  as-sent-asks = asks _ (3 ∷ []) _ tt tt refl;
  overtaken = answered _ _ tt refl;
  in-time = answered _ _ tt refl;
  late = answered _ _ tt refl;
  twice = answered _ _ tt refl;
  lost = answered _ _ tt refl;
  late-first = answered _ _ tt refl;
  forget-stays = answered _ _ tt refl;
  worked-row = kept _ _ tt refl refl;
  worked-answers = answered _ _ tt refl;
  worked-asks = asks _ (1 ∷ 5 ∷ []) _ tt tt refl;
}
