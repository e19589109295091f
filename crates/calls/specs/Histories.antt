-- Pasts of an area: an opening and calls one after another; and what they come to: the bytes, the role count, the policy state, and the trail of
-- each permission, its events answered 0, in order.
--     Call, out_of           a call with any numbers, an opening with a policy state; its answer and the bytes afterwards, without the role of a decision
--     Trail                  the policy state in which a trail starts, where any holder set is possible, and its events, each with the state that it names
--     fresh g, longer e t    the empty trail that starts in state g; t with one event more
--     trail_on q p e a t     the trail t of the permission q after an event e about p was answered a: one longer on 0, fresh on 8, else as it was
--     trail_after q c a i t  the same after the call c was answered a; i is the policy state before it
--     roles_after c a n      the role count n after it
--     policy_on e a i        the policy state i after an event e was answered a: an update answered 0 or 8 brings its own
--     policy_after c a i     the same after the call c was answered a; an opening brings its own too
--     Past                   an opening answered 0, and any calls that followed
--     area, answer_to h c    the bytes after a past; the answer to a call there
--     roles, policy, trail   its role count, its policy state, its trail of each permission
--     PossibleOn n t i       the possible holder sets of a trail in the policy state i
--     PossibleAfter h p      those of the permission p after the past h
--     call_for, call_of      the call by which an event comes in
--     calls                  those of a stream of events
--     after_calls cs l       the bytes l after calls one after another
--     At es i e              e is the event at position i of a stream
--     Rearranged             two streams with the same events in another order
--     KeepsOrder             no reply crosses an update, and updates keep their order: of two events that are not both replies the earlier stays the earlier
--     AllRecorded            every event of a stream is answered 0
use Rattle.std.specs.Prelude.{◌≡◌, cond, ◌||◌, List, [], ◌∷◌, ◌++◌, ℕ, zero, suc, ◌<◌, T, eqb}
use Rattle.meaning.specs.declared.Event.{Event}
use Rattle.meaning.specs.declared.Happening.{Happening}
use Rattle.meaning.specs.declared.Happening.TheVariants.{Allow, Deny, Given, Withdrawn}
use Rattle.meaning.specs.Events.{is_reply, Reply}
use Rattle.meaning.specs.States.{Numbered, numbered, PossibleIn, is_policy_state}
use Rattle.meaning.specs.Kinds.{happened}
use Rattle.calls.specs.Calls.{Out, stays, open_of, event_of, decide_of, forget_of}

pub data Call : Type 0 where
  opening : (n g : ℕ) → T (is_policy_state g) → Call
  event : (p k x g : ℕ) → Call
  ask : (p s : ℕ) → Call
  forget : (p : ℕ) → Call

unfoldable pub out_of : Call → List ℕ → Out
out_of (opening n g b) l = open_of l n g
out_of (event p k x g) l = event_of l p k x g
out_of (ask p s) l = stays (decide_of l p s).answer l
out_of (forget p) l = forget_of l p

-- ---- what a call, answered a, makes of what is known of the past

pub record Trail : Type 0 where
  pub since : ℕ
  pub events : List Numbered

abbrev pub fresh : ℕ → Trail
fresh g = record { since = g; events = [] }

abbrev pub longer : Numbered → Trail → Trail
longer e t = record { since = t.since; events = t.events ++ e ∷ [] }

unfoldable pub trail_on : ℕ → ℕ → Numbered → ℕ → Trail → Trail
trail_on q p e a t = cond (eqb p q) (cond (eqb a 0) (longer e t) (cond (eqb a 8) (fresh e.state) t)) t

unfoldable pub trail_after : ℕ → Call → ℕ → ℕ → Trail → Trail
trail_after q (opening n g b) a i t = cond (eqb a 0) (fresh g) t
trail_after q (event p k x g) a i t = trail_on q p (numbered (happened k x) g) a t
trail_after q (ask p s) a i t = t
trail_after q (forget p) a i t = cond (eqb p q) (cond (eqb a 0) (fresh i) t) t

unfoldable pub roles_after : Call → ℕ → ℕ → ℕ
roles_after (opening m g b) a n = cond (eqb a 0) m n
roles_after (event p k x g) a n = n
roles_after (ask p s) a n = n
roles_after (forget p) a n = n

unfoldable pub policy_on : Numbered → ℕ → ℕ → ℕ
policy_on e a i = cond (is_reply e.happening) i (cond (eqb a 0 || eqb a 8) e.state i)

unfoldable pub policy_after : Call → ℕ → ℕ → ℕ
policy_after (opening n g b) a i = cond (eqb a 0) g i
policy_after (event p k x g) a i = policy_on (numbered (happened k x) g) a i
policy_after (ask p s) a i = i
policy_after (forget p) a i = i

-- ---- pasts

pub data Past : Type 0 where
  opened : (l : List ℕ) (n g : ℕ) → T (is_policy_state g) → (open_of l n g).answer ≡ 0 → Past
  called : Past → Call → Past

unfoldable pub area : Past → List ℕ
area (opened l n g b o) = (open_of l n g).area
area (called h c) = (out_of c (area h)).area

abbrev pub answer_to : Past → Call → ℕ
answer_to h c = (out_of c (area h)).answer

unfoldable pub roles : Past → ℕ
roles (opened l n g b o) = n
roles (called h c) = roles_after c (answer_to h c) (roles h)

unfoldable pub policy : Past → ℕ
policy (opened l n g b o) = g
policy (called h c) = policy_after c (answer_to h c) (policy h)

unfoldable pub trail : Past → ℕ → Trail
trail (opened l n g b o) q = fresh g
trail (called h c) q = trail_after q c (answer_to h c) (policy h) (trail h q)

-- ---- possible holder sets: each reply is true in the state that it names

abbrev pub PossibleOn : ℕ → Trail → ℕ → ℕ → Type 0
PossibleOn n t i = PossibleIn n t.since t.events i

abbrev pub PossibleAfter : Past → ℕ → ℕ → Type 0
PossibleAfter h p = PossibleOn (roles h) (trail h p) (policy h)

-- ---- streams of events

unfoldable pub call_for : ℕ → Happening → ℕ → Call
call_for p (Deny s) g = event p 0 s.bits g
call_for p (Allow s) g = event p 1 s.bits g
call_for p (Withdrawn r) g = event p 2 r g
call_for p (Given r) g = event p 3 r g

abbrev pub call_of : Event → Call
call_of e = call_for e.permission e.happening e.state

abbrev pub calls : List Event → List Call
calls [] = []
calls (e ∷ es) = call_of e ∷ calls es

unfoldable pub after_calls : List Call → List ℕ → List ℕ
after_calls [] l = l
after_calls (c ∷ cs) l = after_calls cs (out_of c l).area

-- positions count from 0
abbrev pub At : List Event → ℕ → Event → Type 0
At [] i e = ⊥
At (f ∷ es) zero e = f ≡ e
At (f ∷ es) (suc i) e = At es i e

-- an event goes from its position in es to one in fs, and back
pub record Rearranged (es fs : List Event) : Type 0 where
  pub to : ℕ → ℕ
  pub from : ℕ → ℕ
  pub there : (i : ℕ) (e : Event) → At es i e → At fs (to i) e × (from (to i) ≡ i)
  pub back : (j : ℕ) (f : Event) → At fs j f → At es (from j) f × (to (from j) ≡ j)

abbrev pub KeepsOrder : List Event → (ℕ → ℕ) → Type 0
KeepsOrder es to = (i j : ℕ) (e f : Event) → At es i e → At es j f → ¬ (Reply e.happening × Reply f.happening) → i < j → to i < to j

abbrev pub AllRecorded : List Event → List ℕ → Type 0
AllRecorded [] l = Unit {0}
AllRecorded (e ∷ es) l = ((out_of (call_of e) l).answer ≡ 0) × AllRecorded es (out_of (call_of e) l).area
