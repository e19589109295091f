-- After any past the area holds a good state, each permission's row is the row after its trail, and the trail's numbers lie one behind the other.
-- Assumes nothing.
use mathlib.Core.Path.{◌≡◌, refl, sym, ap, ◌∙◌, subst, subst⁻¹}
use mathlib.Core.Bool.{Bool, true, false, not, cond, ◌&&◌}
use mathlib.Core.List.{List, [], ◌∷◌, ◌++◌}
use mathlib.Core.Logic.{◌≢◌, ⊎_elim}
use Prim.Native.Nat.{ℕ, suc, ◌≤◌}
use native.Mathlib.Decide.{ℕ_discrete}
use native.Mathlib.Omega.{arith}
use borrow.Author.Tests.{eq-eqb, ne_eqb}
use lib.Dec.{T, eqb, leb, leb→le}
use lib.ListN.{length}
use Rattle.roles.proofs.Tests.{T_and}
use Rattle.roles.specs.Sets.{most_roles}
use Rattle.meaning.specs.declared.Happening.{Happening}
use Rattle.meaning.specs.Events.{known, is_reply, last_policy_state}
use Rattle.meaning.specs.States.{Numbered, numbered, happenings, Timely, is_policy_state, due}
use Rattle.meaning.specs.Rows.{Row, blank, fits, step, settle, row_after, Recorded}
use Rattle.meaning.proofs.States.{due-follows, due-later, timely-later, timely-then, happenings-then}
use Rattle.meaning.specs.Kinds.{happened}
use Rattle.area.specs.Layout.{area_bytes}
use Rattle.area.specs.State.{State, in_policy, GoodState, row_for, put, with_row, area_of}
use Rattle.area.specs.State as states
use Rattle.area.proofs.RowLaws.{row_for-put-same, row_for-put-other}
use Rattle.calls.specs.Calls.{Out, stays, writes, open_of, event_of, forget_of}
use Rattle.calls.specs.Histories.{Call, opening, event, ask, forget, out_of, Trail, fresh, longer, trail_on, trail_after, roles_after, policy_on, policy_after, Past, opened, called, area, roles, policy, trail}
use Rattle.calls.proofs.CallLaws.{open-law}
use Rattle.calls.proofs.Outcomes.{Outcome, refused, recorded, forgotten, drop-state, event-does, forget-on}

-- the bytes l hold n roles in the policy state i, and the rows of the trails t
pub record Holds (l : List ℕ) (n i : ℕ) (t : ℕ → Trail) : Type 0 where
  pub state : State
  pub good : GoodState state
  pub same_roles : state.roles ≡ n
  pub same-policy : state.policy ≡ i
  pub same_area : l ≡ area_of state
  pub trail-recorded : (q : ℕ) → Recorded n blank (happenings (t q).events)
  pub rows : (q : ℕ) → row_for q state.rows ≡ row_after blank (happenings (t q).events)
  pub timely : (q : ℕ) → Timely (t q).since (t q).events i

-- ---- one event more on a trail

pub row-then : (w : Row) (es : List Happening) (e : Happening) → row_after w (es ++ e ∷ []) ≡ step e (row_after w es)
unfolding row_after
row-then w [] e = refl
row-then w (f ∷ es) e = row-then (step f w) es e

recorded-then : (n : ℕ) (w : Row) (es : List Happening) (e : Happening) → Recorded n w es → T (known n e) → (settle fits e (row_after w es)).answer ≡ 0 → Recorded n w (es ++ e ∷ [])
unfolding row_after
recorded-then n w [] e r k a = (k, a, tt)
recorded-then n w (f ∷ es) e r k a = (r.0, r.1, recorded-then n (step f w) es e r.2 k a)

either_way : {A : Type 0} (b : Bool) (t : A) → cond b t t ≡ t
either_way true t = refl
either_way false t = refl

pub trail_on-other : (q p : ℕ) (e : Numbered) (a : ℕ) (t : Trail) → p ≢ q → trail_on q p e a t ≡ t
unfolding trail_on
trail_on-other q p e a t d = rw (ne_eqb p q d)

trail_on-refused : (q p : ℕ) (e : Numbered) (a : ℕ) (t : Trail) → a ≢ 0 → a ≢ 8 → trail_on q p e a t ≡ t
unfolding trail_on
trail_on-refused q p e a t h k = rw (ne_eqb a 0 h, ne_eqb a 8 k) (either_way (eqb p q) t)

pub trail_on-recorded : (q p : ℕ) (e : Numbered) (t : Trail) → p ≡ q → trail_on q p e 0 t ≡ longer e t
unfolding trail_on
trail_on-recorded q p e t d = rw (eq-eqb p q d)

trail_on-forgotten : (q p : ℕ) (e : Numbered) (t : Trail) → p ≡ q → trail_on q p e 8 t ≡ fresh e.state
unfolding trail_on
trail_on-forgotten q p e t d = rw (eq-eqb p q d)

-- ---- the policy state after an event

pub policy_on-refused : (e : Numbered) (a i : ℕ) → a ≢ 0 → a ≢ 8 → policy_on e a i ≡ i
unfolding policy_on
policy_on-refused e a i h k = rw (ne_eqb a 0 h, ne_eqb a 8 k) (either_way (is_reply e.happening) i)

-- a reply that is due names the area's state
pub policy_on-recorded : (e : Numbered) (i : ℕ) → e.state ≡ due e.happening i → policy_on e 0 i ≡ e.state
unfolding policy_on
policy_on-recorded e i t = go (is_reply e.happening) t
  where
    go : (b : Bool) → e.state ≡ cond b i (suc i) → cond b i e.state ≡ e.state
    go true q = sym q
    go false q = refl

pub policy_on-forgotten : (e : Numbered) (i : ℕ) → is_reply e.happening ≡ false → policy_on e 8 i ≡ e.state
unfolding policy_on
policy_on-forgotten e i r = rw r

-- ---- one call more

-- the trail t belongs to the row w, in the policy state i
abbrev Belongs : ℕ → ℕ → Row → Trail → Type 0
Belongs n i w t = Recorded n blank (happenings t.events) × (w ≡ row_after blank (happenings t.events)) × Timely t.since t.events i

fresh_holds : (n g : ℕ) → T (leb 1 n && leb n most_roles) → T (is_policy_state g) → Holds (area_of (states.opened n g)) n g (λ q. fresh g)
unfolding row_for row_after
fresh_holds n g b c =
    let r = (T_and (leb 1 n) (leb n most_roles)).0 b in
    record {
      state = states.opened n g;
      good = record { some-roles = leb→le 1 n r.0; most-roles = leb→le n most_roles r.1; most-rows = omega arith; policy-small = leb→le g last_policy_state c; good-rows = tt };
      same_roles = refl;
      same-policy = refl;
      same_area = refl;
      trail-recorded = λ q. tt;
      rows = λ q. refl;
      timely = λ q. omega arith;
    }

module _ (l : List ℕ) (n i : ℕ) (t : ℕ → Trail) (k : Holds l n i t) where
  belongs : (q : ℕ) → Belongs n i (row_for q k.state.rows) (t q)
  belongs q = (k.trail-recorded q, k.rows q, k.timely q)

  make : (s : State) → GoodState s → s.roles ≡ n → (j : ℕ) → s.policy ≡ j → (a : List ℕ) → a ≡ area_of s → (u : ℕ → Trail) → ((q : ℕ) → Belongs n j (row_for q s.rows) (u q)) → Holds a n j u
  make s g r j c a e u b = record { state = s; good = g; same_roles = r; same-policy = c; same_area = e; trail-recorded = λ q. (b q).0; rows = λ q. (b q).1; timely = λ q. (b q).2 }

  -- the row of p gone, and with it the trail
  drop-belongs : (p q j : ℕ) → i ≤ j → (u : Trail) → (p ≡ q → u ≡ fresh j) → (p ≢ q → u ≡ t q) → Belongs n j (row_for q (put p blank k.state.rows)) u
  unfolding row_after
  drop-belongs p q j le u y z = elim (ℕ_discrete p q) [
    | yes f ↦ subst⁻¹ (Belongs n j (row_for q (put p blank k.state.rows))) (y f)
        (tt, subst (λ (r : ℕ). row_for r (put p blank k.state.rows) ≡ blank) f (row_for-put-same k.state.roles 0 p blank k.state.rows k.good.good-rows), omega arith)
    | no f ↦ subst⁻¹ (Belongs n j (row_for q (put p blank k.state.rows))) (z f)
        (k.trail-recorded q, row_for-put-other p q blank k.state.rows f ∙ k.rows q, timely-later (t q).since (t q).events i j (k.timely q) le)
  ]

  event-holds : (p : ℕ) (e : Numbered) (o : Out) → Outcome k.state p e o → Holds o.area n (policy_on e o.answer i) (λ q. trail_on q p e o.answer (t q))
  event-holds p e o (refused a x y) =
      make k.state k.good k.same_roles (policy_on e a i) (k.same-policy ∙ sym (policy_on-refused e a i x y)) (area_of k.state) refl (λ q. trail_on q p e a (t q))
      (λ q. subst⁻¹ (λ (j : ℕ). Belongs n j (row_for q k.state.rows) (trail_on q p e a (t q))) (policy_on-refused e a i x y)
      (subst⁻¹ (Belongs n i (row_for q k.state.rows)) (trail_on-refused q p e a (t q) x y) (belongs q)))
  event-holds p e o (recorded d x c g) =
      let f : Happening = e.happening in
      let w : Row = row_for p k.state.rows in
      let s' : State = with_row (in_policy e.state k.state) p (step f w) in
      let now : e.state ≡ due f i = d ∙ ap (due f) k.same-policy in
      let then : policy_on e 0 i ≡ e.state = policy_on-recorded e i now in
      let later : i ≤ e.state = let z = due-later f i in omega arith in
      make s' g k.same_roles (policy_on e 0 i) (sym then) (area_of s') refl (λ q. trail_on q p e 0 (t q))
      (λ q. subst⁻¹ (λ (j : ℕ). Belongs n j (row_for q s'.rows) (trail_on q p e 0 (t q))) then (elim (ℕ_discrete p q) [
        | yes m ↦ subst⁻¹ (Belongs n e.state (row_for q s'.rows)) (trail_on-recorded q p e (t q) m) (subst (λ (r : ℕ). Belongs n e.state (row_for r s'.rows) (longer e (t r))) m (
          subst⁻¹ (Recorded n blank) (happenings-then (t p).events e)
              (recorded-then n blank (happenings (t p).events) f (k.trail-recorded p) (subst (λ (j : ℕ). T (known j f)) k.same_roles x) (subst (λ (v : Row). (settle fits f v).answer ≡ 0) (k.rows p) c)),
          row_for-put-same k.state.roles 0 p (step f w) k.state.rows k.good.good-rows ∙ ap (step f) (k.rows p) ∙ sym (row-then blank (happenings (t p).events) f)
              ∙ ap (row_after blank) (sym (happenings-then (t p).events e)),
          timely-then (t p).since (t p).events i e (k.timely p) (due-follows e i now),
        ))
        | no m ↦ subst⁻¹ (Belongs n e.state (row_for q s'.rows)) (trail_on-other q p e 0 (t q) m)
            (k.trail-recorded q, row_for-put-other p q (step f w) k.state.rows m ∙ k.rows q, timely-later (t q).since (t q).events i e.state (k.timely q) later)
      ]))
  event-holds p e o (forgotten d r g) =
      let s' : State = with_row (in_policy e.state k.state) p blank in
      let then : policy_on e 8 i ≡ e.state = policy_on-forgotten e i r in
      let later : i ≤ e.state = let z = due-later e.happening i in let now : e.state ≡ due e.happening i = d ∙ ap (due e.happening) k.same-policy in omega arith in
      make s' g k.same_roles (policy_on e 8 i) (sym then) (area_of s') refl (λ q. trail_on q p e 8 (t q))
      (λ q. subst⁻¹ (λ (j : ℕ). Belongs n j (row_for q s'.rows) (trail_on q p e 8 (t q))) then
      (drop-belongs p q e.state later (trail_on q p e 8 (t q)) (trail_on-forgotten q p e (t q)) (trail_on-other q p e 8 (t q))))

  forget-holds : (p : ℕ) → Holds (forget_of l p).area n i (λ q. cond (eqb p q) (cond (eqb (forget_of l p).answer 0) (fresh i) (t q)) (t q))
  forget-holds p = subst⁻¹ (λ (m : List ℕ). Goal (forget_of m p)) k.same_area (⊎_elim
      (λ d. subst⁻¹ Goal d (make k.state k.good k.same_roles i k.same-policy (area_of k.state) refl (λ q. cond (eqb p q) (t q) (t q))
      (λ q. subst⁻¹ (Belongs n i (row_for q k.state.rows)) (either_way (eqb p q) (t q)) (belongs q))))
      (λ d. subst⁻¹ Goal d.1 (make (with_row k.state p blank) (drop-state k.state k.good p d.0) k.same_roles i k.same-policy (area_of (with_row k.state p blank)) refl (λ q. cond (eqb p q) (fresh i) (t q))
      (λ q. drop-belongs p q i (omega arith) (cond (eqb p q) (fresh i) (t q)) (λ f. ap (λ (b : Bool). cond b (fresh i) (t q)) (eq-eqb p q f)) (λ f. ap (λ (b : Bool). cond b (fresh i) (t q)) (ne_eqb p q f)))))
      (forget-on k.state k.good p))
    where
      Goal : Out → Type 0
      Goal o = Holds o.area n i (λ q. cond (eqb p q) (cond (eqb o.answer 0) (fresh i) (t q)) (t q))

  open-holds : (m g : ℕ) → T (is_policy_state g) → Holds (open_of l m g).area (cond (eqb (open_of l m g).answer 0) m n) (cond (eqb (open_of l m g).answer 0) g i) (λ q. cond (eqb (open_of l m g).answer 0) (fresh g) (t q))
  unfolding open_of
  open-holds m g c = go (not (eqb (length l) area_bytes)) (leb 1 m && leb m most_roles) refl
    where
      Goal : Out → Type 0
      Goal o = Holds o.area (cond (eqb o.answer 0) m n) (cond (eqb o.answer 0) g i) (λ q. cond (eqb o.answer 0) (fresh g) (t q))

      go : (a b : Bool) → (leb 1 m && leb m most_roles) ≡ b → Goal (cond a (stays 1 l) (cond (not b) (stays 2 l) (writes 0 (states.opened m g))))
      go true b q = k
      go false false q = k
      go false true q = fresh_holds m g (subst⁻¹ T q tt) c

  call-holds : (c : Call) → Holds (out_of c l).area (roles_after c (out_of c l).answer n) (policy_after c (out_of c l).answer i) (λ q. trail_after q c (out_of c l).answer i (t q))
  unfolding out_of trail_after roles_after policy_after
  call-holds (opening m g b) = open-holds m g b
  call-holds (event p j x g) =
      event-holds p (numbered (happened j x) g) (event_of l p j x g)
      (subst⁻¹ (λ (m : List ℕ). Outcome k.state p (numbered (happened j x) g) (event_of m p j x g)) k.same_area (event-does k.state k.good p j x g))
  call-holds (ask p s) = k
  call-holds (forget p) = forget-holds p

pub holds : (h : Past) → Holds (area h) (roles h) (policy h) (trail h)
unfolding area roles policy trail
holds (opened l n g b o) =
    let e = open-law l n g o in
    subst⁻¹ (λ (x : Out). Holds x.area n g (λ q. fresh g)) e.0 (fresh_holds n g e.1 b)
holds (called h c) = call-holds (area h) (roles h) (policy h) (trail h) (holds h) c
