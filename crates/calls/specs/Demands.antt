-- The three demands, as statements about the calls' definitions; `proofs/Demands.antt` proves them.
--     OnGrounds              the answer is the number of the first ground that holds, and every answer but 0 and 8 leaves the bytes as they came
--     IsRecorded a           a is 0, as it must be where no ground holds; decide has a verdict there
--     area_grounds           the grounds that all calls but open begin with
--     Unknown n k x          the number beside the kind k says a role at or above n: as a set for kinds 0 and 1, else as a role
--     Late k i g             an event of the kind k that names the state g is late on an area in state i: a reply below it, an update not above it
--     Ahead k i g            it is ahead: a reply above it, an update more than one above it; or it names no policy state, as the one behind the last
--     NoPlace s p w          w does not fit as the row of p
--     no_room k              what an event of the kind k is answered that does not fit
--     event_grounds          the grounds of an event, in the order of Rules, Answers
--     Demand1                any numbers and any bytes get an answer of the table, each refusal exactly on its ground
--     NoRow l p, Forgetting  p has no row; so it is after 8 and after a forget
--     Moving                 which policy state an event and a forget leave, on any bytes
--     Header                 over every past the area has its role count and its policy state
--     ComesIn                the kind and number by which each event comes in, and that it is on the trail
--     InTime                 over every past the states that recorded events name never fall, updates rise, and none is above the area's own
--     Demand2                over every past decide says what the possible holder sets of the present policy state force
--     AsItCame               so recorded, a reply is also true as it comes: the possible holder sets are those that the trail leaves, event by event
--     Whom                   with 12 it gives the one role to ask about; exactly with any other answer 64, on any bytes
--     Looking                a look gives what decide does, on any bytes, and the row that a verdict goes by, none where it is refused; over every past each part
--                            of its row is true by itself
--     About q c              the call c is about the permission q, as opening is about every one
--     NoOther                a call about one permission never changes a decision about another
--     Counts h p k x g       the event is refused by none of 3, 5, 4, 13 and 14
--     Contradicted           over every past 6 exactly when no possible holder set agrees
--     PossibleWith h p e     the possible holder sets of each permission with one event more, in the state that it names
--     Sayable n P            some good area of n roles leaves possible exactly the holder sets P, for each permission
--     Said n p P a b         a is the answer to an event about p after which the holder sets P are possible: 0 exactly when they are sayable, 6
--                            exactly when nothing is possible of p, else b
--     Full                   over every past 7 or 8 exactly when something is possible after the event and no area can say it
--     NothingKnown, used h   every holder set is possible; how many rows are used
--     TookRoom p h d k e     d is recorded on h, and e, the same event on k, its state as far from the area's, does not fit: before d every holder set
--                            of p is possible, after it not, and 128 rows are used on k alone
--     IsEvent c              the call c is an event
--     Others                 a call about one permission changes the answer to an event about another by 13, by 14, or by the number of rows alone
--     Demand3                areas reached from opening are equal exactly when they know the same
--     BothRecorded           streams of the same events on two areas opened alike, every event answered 0 in both
--     Reordered              such streams keep their order, but for replies that pass each other, and give equal areas
--     OneOutcome, OneDecision    any two outcomes that a call's contract allows are equal; so are any two of decide
use Rattle.std.specs.Prelude.{◌≡◌, true, false, cond, List, [], ◌∷◌, ◌↔◌, ◌≢◌, ◌⊎◌, ℕ, suc, ◌+◌, ◌^◌, ◌≤◌, ◌<◌, T, leb, length, ⊤, Result}
use Rattle.words.specs.Words.{Bytes}
use Rattle.roles.specs.Sets.{Below}
use Rattle.refusals.specs.Refusals.{Ground, ground, Exactly}
use Rattle.meaning.specs.declared.Event.{Event}
use Rattle.meaning.specs.declared.Happening.{Happening}
use Rattle.meaning.specs.Events.{known, agrees, HolderSet, Possible, Verdict, Decides, AskAbout}
use Rattle.meaning.specs.States.{Numbered, numbered, happenings, Timely, is_policy_state, due}
use Rattle.meaning.specs.Rows as meaning
use Rattle.meaning.specs.Rows.{Row, blank, Leaves, contradicts, step}
use Rattle.meaning.specs.Says.{Says}
use Rattle.meaning.specs.Kinds.{happened}
use Rattle.area.specs.Layout.{good_bytes}
use Rattle.area.specs.State.{State, in_policy, GoodState, is_blank, row_for, state_of, area_of}
use Rattle.calls.specs.Calls.{Out, valid, open_of, event_of, decide_of, look_of, forget_of}
use Rattle.rows.specs.declared.Verdict as value
use Rattle.calls.specs.declared.Refusal.{Refusal}
use Rattle.calls.specs.declared.Kept.{Kept}
use Rattle.calls.specs.Answers.{kept_number, done_number, number_of, Gives, decided_of}
use Rattle.calls.specs.Histories.{Call, opening, event, ask, forget, out_of, Trail, longer, trail_on, trail_after, Past, called, area, answer_to, roles, policy, trail, PossibleOn, PossibleAfter, call_for, calls, after_calls, Rearranged, KeepsOrder, AllRecorded}

-- ---- demand 1: any numbers and any lent bytes get a numbered answer, and every answer but 0 and 8 leaves the lent area as it came

pub record OnGrounds (l : List ℕ) (o : Out) (gs : List Ground) (otherwise : ℕ → Type 0) : Type 0 where
  pub exactly : Exactly o.answer gs otherwise
  pub unchanged : o.answer ≢ 0 → o.answer ≢ 8 → o.area ≡ l

abbrev pub IsRecorded : ℕ → Type 0
IsRecorded a = a ≡ 0

-- bad area, no permission
abbrev pub area_grounds : List ℕ → ℕ → List Ground → List Ground
area_grounds l p gs = ground 1 (¬ (T (good_bytes l))) ∷ ground 3 (¬ ((1 ≤ p) × (p ≤ 4294967295))) ∷ gs

abbrev pub Unknown : ℕ → ℕ → ℕ → Type 0
Unknown n k x = ((k ≤ 1) × (2 ^ n ≤ x)) ⊎ ((1 < k) × (n ≤ x))

-- more than 15 open sets; or no row before, one afterwards, and 128 in use
abbrev pub NoPlace : State → ℕ → Row → Type 0
NoPlace s p w = (15 < length w.opens) ⊎ ((is_blank (row_for p s.rows) ≡ true) × (is_blank w ≡ false) × (128 ≤ length s.rows))

abbrev pub Late : ℕ → ℕ → ℕ → Type 0
Late k i g = ((k ≤ 1) × (g < i)) ⊎ ((1 < k) × (g ≤ i))

abbrev pub Ahead : ℕ → ℕ → ℕ → Type 0
Ahead k i g = ((k ≤ 1) × (i < g)) ⊎ (((1 < k) × (suc i < g)) ⊎ (4294967295 < g))

-- 7 for a reply, 8 for an update
abbrev pub no_room : ℕ → ℕ
no_room k = cond (leb k 1) 7 8

-- a kind that is none, an unknown role, late, ahead, a contradiction, and last what does not fit
abbrev pub event_grounds : List ℕ → ℕ → ℕ → ℕ → ℕ → List Ground
event_grounds l p k x g =
    let s : State = state_of l in
    let w : Row = row_for p s.rows in
    area_grounds l p (
    ground 5 (3 < k)
    ∷ ground 4 (Unknown s.roles k x)
    ∷ ground 13 (Late k s.policy g)
    ∷ ground 14 (Ahead k s.policy g)
    ∷ ground 6 (T (contradicts (happened k x) w))
    ∷ ground (no_room k) (NoPlace s p (step (happened k x) w))
    ∷ []
    )

pub record Demand1 : Type 0 where
  pub open-answers : (l : List ℕ) (n g : ℕ) → OnGrounds l (open_of l n g) (ground 1 (length l ≢ 18456) ∷ ground 2 (¬ ((1 ≤ n) × (n ≤ 64))) ∷ []) IsRecorded
  pub event-answers : (l : List ℕ) (p k x g : ℕ) → OnGrounds l (event_of l p k x g) (event_grounds l p k x g) IsRecorded
  pub decide-answers : (l : List ℕ) (p s : ℕ) → Exactly (decide_of l p s).answer (area_grounds l p (ground 4 (2 ^ (state_of l).roles ≤ s) ∷ [])) Verdict
  -- as a call of a past; decide itself is lent the area for reading
  pub decide-unchanged : (l : List ℕ) (p s : ℕ) → (out_of (ask p s) l).area ≡ l
  pub forget-answers : (l : List ℕ) (p : ℕ) → OnGrounds l (forget_of l p) (area_grounds l p []) IsRecorded

-- p has no row
abbrev pub NoRow : List ℕ → ℕ → Type 0
NoRow l p = is_blank (row_for p (state_of l).rows) ≡ true

-- after 8 and after a forget answered 0 the permission has no row; where it had none before, 8 changes the policy state alone, and a forget nothing
pub record Forgetting : Type 0 where
  pub event-gone : (l : List ℕ) (p k x g : ℕ) → (event_of l p k x g).answer ≡ 8 → NoRow (event_of l p k x g).area p
  pub forget-gone : (l : List ℕ) (p : ℕ) → (forget_of l p).answer ≡ 0 → NoRow (forget_of l p).area p
  pub event-moves : (l : List ℕ) (p k x g : ℕ) → NoRow l p → (event_of l p k x g).answer ≡ 8 → (event_of l p k x g).area ≡ area_of (in_policy g (state_of l))
  pub forget-unchanged : (l : List ℕ) → Bytes l → (p : ℕ) → NoRow l p → (forget_of l p).answer ≡ 0 → (forget_of l p).area ≡ l

-- an update that is answered 0 or 8 leaves its own, a recorded reply and a forget the one that was there; by demand 1 a refusal leaves every byte
pub record Moving : Type 0 where
  pub update : (l : List ℕ) (p k x g : ℕ) → 1 < k → ((event_of l p k x g).answer ≡ 0) ⊎ ((event_of l p k x g).answer ≡ 8) → (state_of (event_of l p k x g).area).policy ≡ g
  pub reply : (l : List ℕ) (p k x g : ℕ) → k ≤ 1 → (event_of l p k x g).answer ≡ 0 → (state_of (event_of l p k x g).area).policy ≡ (state_of l).policy
  pub forget : (l : List ℕ) (p : ℕ) → (forget_of l p).answer ≡ 0 → (state_of (forget_of l p).area).policy ≡ (state_of l).policy

abbrev pub Header : Type 0
Header = (h : Past) → ((state_of (area h)).roles ≡ roles h) × ((state_of (area h)).policy ≡ policy h)

pub record ComesIn : Type 0 where
  pub calls : (p : ℕ) (e : Happening) (g : ℕ) → (k : ℕ) × (x : ℕ) × (k ≤ 3) × (call_for p e g ≡ event p k x g) × (happened k x ≡ e)
  pub trails : (p : ℕ) (e : Happening) (g i : ℕ) (t : Trail) → trail_after p (call_for p e g) 0 i t ≡ longer (numbered e g) t

-- ---- demand 2: allow exactly when every possible holder set shares a role with the session, deny exactly when none does,
-- undecided otherwise; a reply is taken as true in the policy state that it names

abbrev pub Demand2 : Type 0
Demand2 = (h : Past) (p s : ℕ) → T (valid p) → Below (roles h) s → Decides (PossibleAfter h p) s (decide_of (area h) p s).answer

abbrev pub InTime : Type 0
InTime = (h : Past) (p : ℕ) → Timely (trail h p).since (trail h p).events (policy h)

abbrev pub AsItCame : Type 0
AsItCame = (h : Past) (p x : ℕ) → PossibleAfter h p x ↔ Possible (roles h) (happenings (trail h p).events) x

-- whom to ask about, where decide says that it is undecided
pub record Whom : Type 0 where
  pub undecided : (h : Past) (p s r : ℕ) → (decide_of (area h) p s).answer ≡ 12 → ((decide_of (area h) p s).role ≡ r) ↔ AskAbout (PossibleAfter h p) s r
  pub otherwise : (l : List ℕ) (p s : ℕ) → ((decide_of l p s).role ≡ 64) ↔ ((decide_of l p s).answer ≢ 12)

-- what a part above the cache may show of a permission
pub record Looking : Type 0 where
  pub decides : (l : List ℕ) (p s : ℕ) → (look_of l p s).decided ≡ decide_of l p s
  pub goes_by : (l : List ℕ) (p s : ℕ) → Verdict (decide_of l p s).answer → decide_of l p s ≡ meaning.decide (look_of l p s).row s
  pub refused : (l : List ℕ) (p s : ℕ) → ¬ (Verdict (decide_of l p s).answer) → (look_of l p s).row ≡ blank
  pub says : (h : Past) (p s : ℕ) → T (valid p) → Below (roles h) s → Says (roles h) (PossibleAfter h p) (look_of (area h) p s).row

abbrev pub About : ℕ → Call → Type 0
About q (opening n g b) = Unit {0}
About q (event p k x g) = p ≡ q
About q (ask p s) = p ≡ q
About q (forget p) = p ≡ q

abbrev pub NoOther : Type 0
NoOther = (h : Past) (c : Call) (q s : ℕ) → ¬ (About q c) → decide_of (area (called h c)) q s ≡ decide_of (area h) q s

pub record Counts (h : Past) (p k x g : ℕ) : Type 0 where
  pub permission : T (valid p)
  pub kind : k ≤ 3
  pub roles-known : T (known (roles h) (happened k x))
  pub state : g ≡ due (happened k x) (policy h)
  pub is_state : T (is_policy_state g)

abbrev pub Contradicted : Type 0
Contradicted = (h : Past) (p k x g : ℕ) → Counts h p k x g → ((event_of (area h) p k x g).answer ≡ 6) ↔ ((s : ℕ) → PossibleAfter h p s → ¬ (T (agrees (happened k x) s)))

-- ---- full and forgotten: something is possible, and no area can say it

abbrev pub PossibleWith : Past → ℕ → Numbered → ℕ → ℕ → Type 0
PossibleWith h p e q = PossibleOn (roles h) (trail_on q p e 0 (trail h q)) e.state

abbrev pub Sayable : ℕ → (ℕ → ℕ → Type 0) → Type 0
Sayable n P = (s : State) × GoodState s × (s.roles ≡ n) × ((q : ℕ) → T (valid q) → (x : ℕ) → Leaves n (row_for q s.rows) x ↔ P q x)

pub record Said (n p : ℕ) (P : ℕ → ℕ → Type 0) (a b : ℕ) : Type 0 where
  pub one_of : (a ≡ 0) ⊎ ((a ≡ 6) ⊎ (a ≡ b))
  pub recorded : (a ≡ 0) ↔ Sayable n P
  pub contradiction : (a ≡ 6) ↔ ((x : ℕ) → ¬ (P p x))
  pub unsayable : (a ≡ b) ↔ (((x : ℕ) × P p x) × ¬ (Sayable n P))

abbrev pub Full : Type 0
Full = (h : Past) (p k x g : ℕ) → Counts h p k x g → Said (roles h) p (PossibleWith h p (numbered (happened k x) g)) (event_of (area h) p k x g).answer (no_room k)

-- ---- what a call about one permission can change of the answer to a call about another: whether there is room for a first row, and, if it moves
-- the policy state, which events are due

abbrev pub NothingKnown : Past → ℕ → Type 0
NothingKnown h p = (x : ℕ) → HolderSet (roles h) x → PossibleAfter h p x

abbrev pub used : Past → ℕ
used h = length (state_of (area h)).rows

pub record TookRoom (p : ℕ) (h : Past) (d : Call) (k : Past) (e : Call) : Type 0 where
  pub recorded : answer_to h d ≡ 0
  pub unfit : (answer_to k e ≡ 7) ⊎ (answer_to k e ≡ 8)
  pub before : NothingKnown h p
  pub after : ¬ (NothingKnown (called h d) p)
  pub room : used h < 128
  pub no_room : used k ≡ 128

abbrev pub IsEvent : Call → Type 0
IsEvent (opening n g b) = ⊥
IsEvent (event p k x g) = Unit {0}
IsEvent (ask p s) = ⊥
IsEvent (forget p) = ⊥

pub record Others : Type 0 where
  -- the answer to an event is the same, or it was ahead, or it is late, or one of the two took the last room
  pub answers : (h : Past) (p : ℕ) (c : Call) → ¬ (About p c) → (k x g : ℕ)
      → (answer_to (called h c) (event p k x g) ≡ answer_to h (event p k x g))
      ⊎ ((answer_to h (event p k x g) ≡ 14)
      ⊎ ((answer_to (called h c) (event p k x g) ≡ 13)
      ⊎ (TookRoom p h (event p k x g) (called h c) (event p k x g) ⊎ TookRoom p (called h c) (event p k x g) h (event p k x g))))
  -- decide, forget and open are answered as before
  pub calls : (h : Past) (p : ℕ) (c d : Call) → ¬ (About p c) → About p d → ¬ (IsEvent d) → answer_to (called h c) d ≡ answer_to h d
  -- the policy state stays or goes one on
  pub moves : (h : Past) (p : ℕ) (c : Call) → ¬ (About p c) → (policy (called h c) ≡ policy h) ⊎ (policy (called h c) ≡ suc (policy h))
  -- the same event, naming a state as far from the area's: the same number where that stayed, one more where it went on
  pub events : (h : Past) (p : ℕ) (c : Call) → ¬ (About p c) → (k x g j : ℕ) → is_policy_state g ≡ is_policy_state j → g + policy (called h c) ≡ j + policy h
      → (answer_to (called h c) (event p k x j) ≡ answer_to h (event p k x g))
      ⊎ (TookRoom p h (event p k x g) (called h c) (event p k x j) ⊎ TookRoom p (called h c) (event p k x j) h (event p k x g))
  -- the same event, naming the same state, after the state has moved: it was due and is late, or it was ahead and is due
  pub late-or-timely : (h : Past) (p : ℕ) (c : Call) → ¬ (About p c) → policy (called h c) ≡ suc (policy h) → (k x g : ℕ)
      → (answer_to (called h c) (event p k x g) ≡ answer_to h (event p k x g))
      ⊎ (((g ≡ due (happened k x) (policy h)) × (answer_to (called h c) (event p k x g) ≡ 13))
      ⊎ ((g ≡ due (happened k x) (policy (called h c))) × (answer_to h (event p k x g) ≡ 14)))

-- ---- demand 3: areas reached from opening are equal byte for byte exactly when they have the same role count, the same policy state and the same
-- possible holder sets for each permission

abbrev pub Demand3 : Type 0
Demand3 = (h k : Past) → (area h ≡ area k)
    ↔ ((roles h ≡ roles k) × (policy h ≡ policy k) × ((p : ℕ) → T (valid p) → (x : ℕ) → PossibleAfter h p x ↔ PossibleAfter k p x))

-- two streams of the same events, each on a fresh area of its own, every event answered 0
pub record BothRecorded (l m : List ℕ) (n g : ℕ) (es fs : List Event) : Type 0 where
  pub is_state : T (is_policy_state g)
  pub opened : (open_of l n g).answer ≡ 0
  pub opened-too : (open_of m n g).answer ≡ 0
  pub rearranged : Rearranged es fs
  pub recorded : AllRecorded es (open_of l n g).area
  pub recorded-too : AllRecorded fs (open_of m n g).area

pub record Reordered : Type 0 where
  pub keeps-order : (l m : List ℕ) (n g : ℕ) (es fs : List Event) (b : BothRecorded l m n g es fs) → KeepsOrder es b.rearranged.to
  pub same_area : (l m : List ℕ) (n g : ℕ) (es fs : List Event) → BothRecorded l m n g es fs → after_calls (calls es) (open_of l n g).area ≡ after_calls (calls fs) (open_of m n g).area

-- ---- one outcome

pub record OneOutcome : Type 0 where
  pub events : (o : Out) (r s : Result Kept Refusal) (l m : List ℕ) → Gives o (number_of kept_number r) l → Gives o (number_of kept_number s) m → (r ≡ s) × (l ≡ m)
  pub others : (o : Out) (r s : Result ⊤ Refusal) (l m : List ℕ) → Gives o (number_of done_number r) l → Gives o (number_of done_number s) m → (r ≡ s) × (l ≡ m)

abbrev pub OneDecision : Type 0
OneDecision = (d : meaning.Decided) (r s : Result value.Verdict Refusal) → decided_of r ≡ d → decided_of s ≡ d → r ≡ s
