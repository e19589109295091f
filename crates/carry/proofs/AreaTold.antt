-- Rows told by their replies, one behind the other, to an area: each reply is recorded, and the area comes to hold the rows. Assumes nothing.
--     events_for, events     the events that tell of a row, of rows, in a policy state
--     Tells es l m           every event of es is answered 0, from the area l on, and m is the area afterwards
use mathlib.Core.Path.{◌≡◌, refl, sym, ap, ◌∙◌, subst, subst⁻¹}
use mathlib.Core.Bool.{Bool, true, false, not, cond, false≢true}
use mathlib.Core.List.{List, [], ◌∷◌, ◌++◌, append-nil, append_assoc}
use mathlib.Core.Logic.{⊎_elim}
use Prim.Native.Nat.{ℕ, ◌≤◌, ◌<◌}
use native.Mathlib.Omega.{arith}
use lib.Dec.{T, eqb, le→leb}
use lib.ListN.{length, length-append}
use Rattle.roles.proofs.Tests.{T?, T_true, T_false}
use Rattle.meaning.specs.declared.Event.{Event}
use Rattle.meaning.specs.declared.Happening.{Happening}
use Rattle.meaning.specs.declared.Happening.TheVariants.{Allow, Deny, Given, Withdrawn}
use Rattle.meaning.specs.Events.{known, Reply, last_policy_state}
use Rattle.meaning.specs.Rows.{Row, blank, Good, most_opens, fits, step, contradicts, row_after, Recorded}
use Rattle.meaning.proofs.Answers.{fits-law}
use Rattle.meaning.proofs.Kept.{blank-good}
use Rattle.meaning.proofs.Theorems.{settle-law, step-good}
use Rattle.meaning.specs.States.{is_policy_state}
use Rattle.meaning.specs.Kinds.{happened}
use Rattle.area.specs.Layout.{most_rows}
use Rattle.area.specs.State.{Entry, State, opened, with_rows, is_blank, GoodRow, GoodState, area_of, row_for, put, with_row}
use Rattle.area.proofs.RowLaws.{is_blank-law, row_for-put-same, put-again, put-not, hit-law, rows-first, next-good, next-absent, put_next}
use Rattle.calls.specs.Calls.{Out, writes, valid, fits_in}
use Rattle.calls.specs.Histories.{out_of, call_for, call_of}
use Rattle.calls.proofs.CallLaws.{valid-law, fits_in-over, fits_in-room, event_on, event-recorded}
use Rattle.calls.proofs.Outcomes.{put-state, event-is}
use Rattle.print.specs.Printed.{allows, replies_of}
use Rattle.carry.proofs.RowTold.{told-again}

abbrev pub events_for : ℕ → List Happening → ℕ → List Event
events_for p [] g = []
events_for p (e ∷ es) g = record { permission = p; happening = e; state = g } ∷ events_for p es g

abbrev pub events : ℕ → List Entry → List Event
events g [] = []
events g (e ∷ es) = events_for e.permission (replies_of e.row) g ++ events g es

abbrev pub Tells : List Event → List ℕ → List ℕ → Type 0
Tells [] l m = l ≡ m
Tells (e ∷ es) l m = ((out_of (call_of e) l).answer ≡ 0) × Tells es (out_of (call_of e) l).area m

pub tells-then : (es fs : List Event) (l m k : List ℕ) → Tells es l m → Tells fs m k → Tells (es ++ fs) l k
tells-then [] fs l m k a b = subst⁻¹ (λ (x : List ℕ). Tells fs x k) a b
tells-then (e ∷ es) fs l m k a b = (a.0, tells-then es fs (out_of (call_of e) l).area m k a.1 b)

-- ---- one reply

module _ (s : State) (g : GoodState s) (p : ℕ) (v : T (valid p)) where
  small : T (is_policy_state s.policy)
  small = le→leb s.policy last_policy_state g.policy-small

  -- the call of a reply that names the area's own state
  call-is : (e : Happening) → Reply e → T (known s.roles e) → out_of (call_for p e s.policy) (area_of s) ≡ event_on (area_of s) s p e (row_for p s.rows)
  unfolding out_of call_for happened
  call-is (Deny u) r k = event-is s g p 0 u.bits s.policy v tt k refl small
  call-is (Allow u) r k = event-is s g p 1 u.bits s.policy v tt k refl small
  call-is (Withdrawn x) r k = absurd r
  call-is (Given x) r k = absurd r

abbrev AllReplies : List Happening → Type 0
AllReplies [] = Unit {0}
AllReplies (e ∷ es) = Reply e × AllReplies es

allows-replies : (l : List ℕ) → AllReplies (allows l)
allows-replies [] = tt
allows-replies (o ∷ l) = (tt, allows-replies l)

all-replies : (w : Row) → AllReplies (replies_of w)
all-replies w = go (eqb w.denied 0)
  where
    go : (b : Bool) → AllReplies (cond b [] (Deny (record { bits = w.denied }) ∷ []) ++ allows w.opens)
    go true = allows-replies w.opens
    go false = (tt, allows-replies w.opens)

-- ---- the events of a permission that has no row yet

module _ (s : State) (g : GoodState s) (p : ℕ) (v : T (valid p)) (absent : row_for p s.rows ≡ blank) (room : length s.rows < most_rows) where
  abbrev at : Row → State
  at w = with_row s p w

  -- a row that may stand for p: good, and not too long
  record Stands (w : Row) : Type 0 where
    pub good : Good s.roles w
    pub few : length w.opens ≤ most_opens

  good-row : (w : Row) → Stands w → is_blank w ≡ false → GoodRow s.roles w
  good-row w h b = record { good = h.good; says = subst⁻¹ (λ (x : Bool). T (not x)) b tt; few = h.few }

  found : (w : Row) → row_for p (at w).rows ≡ w
  found w = row_for-put-same s.roles 0 p w s.rows g.good-rows

  above : (1 ≤ p) × (p ≤ 4294967295)
  above = (valid-law p).0 v

  again : (w w' : Row) → Stands w → Stands w' → with_row (at w) p w' ≡ at w'
  again w w' h h' = ap (with_rows s) (put-again s.roles 0 p w w' s.rows g.good-rows above.0 above.1 (good-row w h) (good-row w' h'))

  -- a blank row is no row
  no_row : (w : Row) → is_blank w ≡ true → put p w s.rows ≡ s.rows
  no_row w b =
      put-not p w s.rows
      (λ k. false≢true (sym ((hit-law s.roles 0 p s.rows g.good-rows).0 k) ∙ (is_blank-law (row_for p s.rows)).1 absent)) b

  -- so there is room for a first one; over a row there is always room
  has-place : (w w' : Row) → fits w' ≡ true → fits_in (at w) p w' ≡ true
  has-place w w' f = ⊎_elim
      (λ b. fits_in-room (at w) p w' f (subst⁻¹ (λ (es : List Entry). length es < most_rows) (no_row w (T_true (is_blank w) b)) room))
      (λ b. fits_in-over (at w) p w' f (subst⁻¹ (λ (u : Row). is_blank u ≡ false) (found w) (T_false (is_blank w) b)))
      (T? (is_blank w))

  -- a stream of replies that the row of p records
  tell-row : (es : List Happening) (w : Row) → Stands w → GoodState (at w) → AllReplies es → Recorded s.roles w es
      → Tells (events_for p es s.policy) (area_of (at w)) (area_of (at (row_after w es))) × GoodState (at (row_after w es))
  unfolding row_after
  tell-row [] w h gs a r = (refl, gs)
  tell-row (e ∷ es) w h gs a r =
      let w' : Row = step e w in
      let law = (settle-law s.roles e w h.good r.0).recorded.0 r.1 in
      let h' : Stands w' = record { good = step-good s.roles w e h.good r.0 law.0; few = law.1 } in
      let place : fits_in (at w) p w' ≡ true = has-place w w' (T_true (fits w') ((fits-law w').1 law.1)) in
      let same : with_row (at w) p w' ≡ at w' = again w w' h h' in
      let out : out_of (call_for p e s.policy) (area_of (at w)) ≡ writes 0 (at w') =
      call-is (at w) gs p v e a.0 r.0
      ∙ ap (event_on (area_of (at w)) (at w) p e) (found w)
      ∙ event-recorded (area_of (at w)) (at w) p e w (T_false (contradicts e w) law.0) place
      ∙ ap (writes 0) same in
      let gs' : GoodState (at w') = subst GoodState same (put-state (at w) gs p v w' h'.good (subst⁻¹ T place tt)) in
      let rest = tell-row es w' h' gs' a.1 r.2 in
      ((ap (λ (o : Out). o.answer) out, subst⁻¹ (λ (o : Out). Tells (events_for p es s.policy) o.area (area_of (at (row_after w' es)))) out rest.0), rest.1)

  -- from no row on
  pub tell-first : (es : List Happening) → AllReplies es → Recorded s.roles blank es → Tells (events_for p es s.policy) (area_of s) (area_of (with_row s p (row_after blank es)))
  tell-first es a r =
      let none : at blank ≡ s = ap (with_rows s) (no_row blank refl) in
      subst (λ (t : State). Tells (events_for p es s.policy) (area_of t) (area_of (at (row_after blank es)))) none
      (tell-row es blank (record { good = blank-good s.roles; few = omega arith }) (subst⁻¹ GoodState none g) a r).0

-- ---- rows one behind the other

abbrev holding : ℕ → ℕ → List Entry → State
holding n g es = record { roles = n; policy = g; rows = es }

-- the rows fs behind the rows es
tell-rows : (n i : ℕ) (es fs : List Entry) → GoodState (holding n i (es ++ fs)) → Tells (events i fs) (area_of (holding n i es)) (area_of (holding n i (es ++ fs)))
tell-rows n i es [] g = ap (λ (l : List Entry). area_of (holding n i l)) (sym (append-nil es))
tell-rows n i es (f ∷ fs) g =
    let most : length (es ++ f ∷ fs) ≤ most_rows = g.most-rows in
    let long = length-append es (f ∷ fs) in
    let s : State = holding n i es in
    let gs : GoodState s = record { some-roles = g.some-roles; most-roles = g.most-roles; most-rows = omega arith; policy-small = g.policy-small; good-rows = rows-first n 0 es (f ∷ fs) g.good-rows } in
    let e = next-good n f fs 0 es g.good-rows in
    let told = told-again n f.row e.good-row.good e.good-row.few in
    let replies : List Event = events_for f.permission (replies_of f.row) i in
    let more : (es ++ f ∷ []) ++ fs ≡ es ++ f ∷ fs = append_assoc es (f ∷ []) fs in
    let first : Tells replies (area_of s) (area_of (holding n i (es ++ f ∷ []))) =
    subst (λ (l : List Entry). Tells replies (area_of s) (area_of (holding n i l))) (put_next n f fs 0 es g.good-rows)
    (subst (λ (w : Row). Tells replies (area_of s) (area_of (with_row s f.permission w))) told.1
    (tell-first s gs f.permission ((valid-law f.permission).1 (e.above, e.valid)) (next-absent n f fs 0 es g.good-rows) (omega arith) (replies_of f.row) (all-replies f.row) told.0)) in
    let rest : Tells (events i fs) (area_of (holding n i (es ++ f ∷ []))) (area_of (holding n i (es ++ f ∷ fs))) =
    subst (λ (l : List Entry). Tells (events i fs) (area_of (holding n i (es ++ f ∷ []))) (area_of (holding n i l))) more
    (tell-rows n i (es ++ f ∷ []) fs (subst⁻¹ (λ (l : List Entry). GoodState (holding n i l)) more g)) in
    tells-then replies (events i fs) (area_of s) (area_of (holding n i (es ++ f ∷ []))) (area_of (holding n i (es ++ f ∷ fs))) first rest

-- all rows of a good state, behind its opening
pub tell-all : (s : State) → GoodState s → Tells (events s.policy s.rows) (area_of (opened s.roles s.policy)) (area_of s)
tell-all s g = tell-rows s.roles s.policy [] s.rows g
