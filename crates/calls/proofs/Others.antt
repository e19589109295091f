-- What a call about one permission can change of the answer to a call about another. Assumes nothing.
use mathlib.Core.Path.{◌≡◌, refl, sym, ap, ap₂, ◌∙◌, subst, subst⁻¹}
use mathlib.Core.Bool.{Bool, true, false, not, cond, ◌&&◌, ◌||◌}
use mathlib.Core.List.{List}
use mathlib.Core.Logic.{◌⊎◌, inl, inr, ⊎_elim}
use Prim.Native.Nat.{ℕ, suc, ◌+◌, ◌≤◌, ◌<◌}
use native.Mathlib.Decide.{ℕ_discrete}
use native.Mathlib.Omega.{arith}
use borrow.Author.Tests.{eq-eqb, lt-ltb, le-ltb}
use lib.Dec.{T, eqb, ltb, leb, ltb→lt, lt→ltb, nltb→le}
use lib.ListN.{length}
use Rattle.roles.specs.Sets.{most_roles}
use Rattle.roles.proofs.Tests.{T?, T-ext, T_true}
use Rattle.meaning.specs.declared.Happening.{Happening}
use Rattle.meaning.specs.Events.{known, is_reply, HolderSet}
use Rattle.meaning.specs.States.{Numbered, numbered, happenings, is_policy_state, due, is_late, is_ahead}
use Rattle.meaning.specs.Rows.{Row, blank, Leaves, Good, fits, contradicts, step, row_after, Decided}
use Rattle.meaning.proofs.Kept.{blank-good, step-good}
use Rattle.meaning.proofs.Trails.{blank-leaves}
use Rattle.meaning.proofs.States.{happenings-then, due-counts}
use Rattle.meaning.proofs.Theorems.{canonical}
use Rattle.meaning.specs.Kinds.{happened}
use Rattle.area.specs.Layout.{most_rows, area_bytes, good_bytes}
use Rattle.area.specs.State.{State, in_policy, GoodState, is_blank, row_for, with_row, area_of}
use Rattle.area.proofs.RowLaws.{is_blank-law}
use Rattle.area.proofs.Bytes.{length-area}
use Rattle.calls.specs.Calls.{Out, valid, fits_in, event_of, open_of, forget_of, last_kind}
use Rattle.calls.specs.Histories.{Call, opening, event, ask, forget, out_of, Trail, trail_on, trail_after, roles_after, policy_on, policy_after, Past, called, area, answer_to, roles, policy, trail}
use Rattle.calls.specs.Demands as demands
use Rattle.calls.proofs.CallLaws.{open-bad-count, open-recorded, fits_in-law, fits_in-policy, event_on, event-contradicts, event-unfit, event-recorded, event-no-permission, event-bad-kind, event-unknown, event-late, event-ahead, unfit-answer, forget-no-permission, forget-forgets}
use Rattle.calls.proofs.Outcomes.{Outcome, refused, recorded, forgotten, area-is-good, known_in, late-in, ahead_in, event-is, event-does}
use Rattle.calls.proofs.Invariant.{holds, row-then, trail_on-recorded, policy_on-refused, policy_on-recorded, policy_on-forgotten}
use Rattle.calls.proofs.Decisions.{area-held, leaves-possible, other-roles, other_row, no_other}
use Rattle.calls.proofs.Grounds.{new_row}
use Rattle.calls.proofs.Full.{rows-good}

-- ---- the answer to an event hangs on the role count, the policy state, the permission's row, and whether the row after it fits

answer_by : Bool → Bool → Bool → Bool → Bool → Bool → Bool → ℕ → ℕ
answer_by v b k t a c f u = cond v (cond b (cond k (cond t 13 (cond a 14 (cond c 6 (cond f 0 u)))) 4) 5) 3

event-by : (s : State) → GoodState s → (p i x j : ℕ)
    → (event_of (area_of s) p i x j).answer
    ≡ answer_by (valid p) (leb i last_kind) (known s.roles (happened i x)) (is_late (happened i x) s.policy j) (is_ahead (happened i x) s.policy j)
    (contradicts (happened i x) (row_for p s.rows)) (fits_in s p (step (happened i x) (row_for p s.rows))) (demands.no_room i)
unfolding answer_by
event-by s g p i x j = go (valid p) refl (leb i last_kind) refl (known s.roles e) refl (is_late e s.policy j) refl (is_ahead e s.policy j) refl (contradicts e w) refl (fits_in s p (step e w)) refl
  where
    e : Happening
    e = happened i x

    w : Row
    w = row_for p s.rows

    s' : State
    s' = in_policy j s

    good : good_bytes (area_of s) ≡ true
    good = area-is-good s g

    is : (o : Out) → event_of (area_of s) p i x j ≡ o → (event_of (area_of s) p i x j).answer ≡ o.answer
    is o q = ap (λ (y : Out). y.answer) q

    on : valid p ≡ true → leb i last_kind ≡ true → known s.roles e ≡ true → is_late e s.policy j ≡ false → is_ahead e s.policy j ≡ false
        → (o : Out) → event_on (area_of s) s' p e w ≡ o → (event_of (area_of s) p i x j).answer ≡ o.answer
    on v b k t a o q =
        let d = due-counts e s.policy j t a in
        is o (event-is s g p i x j (subst⁻¹ T v tt) (subst⁻¹ T b tt) (subst⁻¹ T k tt) d.0 d.1 ∙ q)

    go : (v : Bool) → valid p ≡ v → (b : Bool) → leb i last_kind ≡ b → (k : Bool) → known s.roles e ≡ k → (t : Bool) → is_late e s.policy j ≡ t → (a : Bool) → is_ahead e s.policy j ≡ a
        → (c : Bool) → contradicts e w ≡ c → (f : Bool) → fits_in s p (step e w) ≡ f → (event_of (area_of s) p i x j).answer ≡ answer_by v b k t a c f (demands.no_room i)
    go false v b x' k y t l a m c z f q = is _ (event-no-permission (area_of s) p i x j good v)
    go true v false b k y t l a m c z f q = is _ (event-bad-kind (area_of s) p i x j good v b)
    go true v true b false y t l a m c z f q = is _ (event-unknown (area_of s) p i x j good v b (known_in s g e ∙ y))
    go true v true b true y true l a m c z f q = is _ (event-late (area_of s) p i x j good v b (known_in s g e ∙ y) (late-in s g e j ∙ l))
    go true v true b true y false l true m c z f q = is _ (event-ahead (area_of s) p i x j good v b (known_in s g e ∙ y) (late-in s g e j ∙ l) (ahead_in s g e j ∙ m))
    go true v true b true y false l false m true z f q = on v b y l m _ (event-contradicts (area_of s) s' p e w z)
    go true v true b true y false l false m false z true q = on v b y l m _ (event-recorded (area_of s) s' p e w z (fits_in-policy s j p (step e w) ∙ q))
    go true v true b true y false l false m false z false q =
        on v b y l m _ (event-unfit (area_of s) s' p e w z (fits_in-policy s j p (step e w) ∙ q)) ∙ unfit-answer (area_of s) (with_row s' p blank) i x

-- ---- numbers as far from one state as from another

module _ (e : Happening) (i j g m : ℕ) (far : g + j ≡ m + i) where
  same-late : is_late e i g ≡ is_late e j m
  same-late = go (is_reply e)
    where
      go : (b : Bool) → ltb g (cond b i (suc i)) ≡ ltb m (cond b j (suc j))
      go true = T-ext (ltb g i) (ltb m j) ((λ t. lt→ltb m j (let h = ltb→lt g i t in omega arith)), (λ t. lt→ltb g i (let h = ltb→lt m j t in omega arith)))
      go false = T-ext (ltb g (suc i)) (ltb m (suc j)) ((λ t. lt→ltb m (suc j) (let h = ltb→lt g (suc i) t in omega arith)), (λ t. lt→ltb g (suc i) (let h = ltb→lt m (suc j) t in omega arith)))

  same_ahead : is_policy_state g ≡ is_policy_state m → is_ahead e i g ≡ is_ahead e j m
  same_ahead s = rw s (go (is_reply e))
    where
      go : (r : Bool) → (ltb (cond r i (suc i)) g || not (is_policy_state m)) ≡ (ltb (cond r j (suc j)) m || not (is_policy_state m))
      go true = ap (λ (t : Bool). t || not (is_policy_state m)) (T-ext (ltb i g) (ltb j m) ((λ t. lt→ltb j m (let h = ltb→lt i g t in omega arith)), (λ t. lt→ltb i g (let h = ltb→lt j m t in omega arith))))
      go false = ap (λ (t : Bool). t || not (is_policy_state m)) (T-ext (ltb (suc i) g) (ltb (suc j) m) ((λ t. lt→ltb (suc j) m (let h = ltb→lt (suc i) g t in omega arith)), (λ t. lt→ltb (suc i) g (let h = ltb→lt (suc j) m t in omega arith))))

-- ---- a row that fits in one area and not in the other

used-is : (h : Past) → demands.used h ≡ length (holds h).state.rows
used-is h = ap (λ (s : State). length s.rows) (area-held h)

record Reasons (h k : Past) (p : ℕ) (d : Call) : Type 0 where
  before : demands.NothingKnown h p
  after : ¬ (demands.NothingKnown (called h d) p)
  room : demands.used h < most_rows
  no_room : demands.used k ≡ most_rows

-- the row of p is the same in both
module _ (h k : Past) (p : ℕ) (same : row_for p (holds k).state.rows ≡ row_for p (holds h).state.rows) (e : Happening) (kn : T (known (roles h) e)) where
  abbrev w : Row
  w = row_for p (holds h).state.rows

  reasons : T (not (contradicts e w)) → fits_in (holds h).state p (step e w) ≡ true → fits_in (holds k).state p (step e w) ≡ false
      → (d : Call) → roles (called h d) ≡ roles h → row_for p (holds (called h d)).state.rows ≡ step e w → Reasons h k p d
  reasons agreed a b d count row =
      let n : ℕ = roles h in
      let fit = fits_in-law (holds h).state p (step e w) (subst⁻¹ T a tt) in
      let c = new_row (holds k).state p (step e w) (T_true (fits (step e w)) fit.0) (λ q. let z : ◌≡◌ {A = ℕ} 0 1 = cc in omega arith) in
      let none : is_blank w ≡ true = ap (λ (u : Row). is_blank u) (sym same) ∙ c.0 in
      let is-blank : w ≡ blank = (is_blank-law w).0 none in
      let w-good : Good n w = rows-good n (holds h).state (holds h).good (holds h).same_roles p in
      record {
        before = λ i hi. (leaves-possible h p i).0 (subst⁻¹ (λ (u : Row). Leaves n u i) is-blank (blank-leaves n i hi));
        after = λ z.
            let left : (i : ℕ) → HolderSet n i → Leaves n (step e w) i = λ i hi. rw (← row, ← count) ((leaves-possible (called h d) p i).1 (z i (rw count hi))) in
            let all : step e w ≡ blank = canonical n (step e w) blank (step-good n w e w-good kn agreed) (blank-good n) (λ i. (
              (λ m. blank-leaves n i m.holder),
              λ m. left i m.holder,
            )) in
            let q : is_blank (step e w) ≡ true = (is_blank-law (step e w)).1 all in
            let r : is_blank (step e w) ≡ false = c.1 in
            let zero_one : ◌≡◌ {A = ℕ} 0 1 = cc in omega arith;
        room = subst⁻¹ (λ (m : ℕ). m < most_rows) (used-is h) (fit.1 none c.1);
        no_room = used-is k ∙ (let most = (holds k).good.most-rows in let least = c.2 in omega arith);
      }

-- ---- the answers to an event before and after a call about another permission

unfit-is : (i a : ℕ) → a ≡ demands.no_room i → (a ≡ 7) ⊎ (a ≡ 8)
unfit-is i a = go (leb i 1)
  where
    go : (r : Bool) → a ≡ cond r 7 8 → (a ≡ 7) ⊎ (a ≡ 8)
    go true q = inl q
    go false q = inr q

-- an event keeps the role count, and one that is recorded makes its step on the row
event-roles : (h : Past) (p i x g : ℕ) → roles (called h (event p i x g)) ≡ roles h
unfolding roles roles_after
event-roles h p i x g = refl

recorded_row : (h : Past) (p i x g : ℕ) → answer_to h (event p i x g) ≡ 0 → row_for p (holds (called h (event p i x g))).state.rows ≡ step (happened i x) (row_for p (holds h).state.rows)
unfolding trail trail_after
recorded_row h p i x g z =
    let e : Numbered = numbered (happened i x) g in
    (holds (called h (event p i x g))).rows p
    ∙ ap (λ (t : Trail). row_after blank (happenings t.events)) (ap (λ (a : ℕ). trail_on p p e a (trail h p)) z ∙ trail_on-recorded p p e (trail h p) refl)
    ∙ ap (row_after blank) (happenings-then (trail h p).events e)
    ∙ row-then blank (happenings (trail h p).events) (happened i x)
    ∙ ap (step (happened i x)) (sym ((holds h).rows p))

-- k has the role count of h, and the same row of p
module _ (h k : Past) (p i x : ℕ) (count : roles k ≡ roles h) (row : row_for p (holds k).state.rows ≡ row_for p (holds h).state.rows) where
  abbrev u : Row
  u = row_for p (holds h).state.rows

  abbrev e : Happening
  e = happened i x

  -- the answers hang on the policy state, and on whether there is room
  answer-of : (m : Past) (g : ℕ) → roles m ≡ roles h → row_for p (holds m).state.rows ≡ u
      → answer_to m (event p i x g)
      ≡ answer_by (valid p) (leb i last_kind) (known (roles h) e) (is_late e (policy m) g) (is_ahead e (policy m) g) (contradicts e u) (fits_in (holds m).state p (step e u)) (demands.no_room i)
  unfolding out_of
  answer-of m g q r =
      let z = holds m in
      ap (λ (l : List ℕ). (event_of l p i x g).answer) z.same_area
      ∙ event-by z.state z.good p i x g
      ∙ ap₂ {C = ℕ} (λ (n : ℕ) (a : Row). answer_by (valid p) (leb i last_kind) (known n e) (is_late e z.state.policy g) (is_ahead e z.state.policy g) (contradicts e a) (fits_in z.state p (step e a)) (demands.no_room i)) (z.same_roles ∙ q) r
      ∙ ap (λ (j : ℕ). answer_by (valid p) (leb i last_kind) (known (roles h) e) (is_late e j g) (is_ahead e j g) (contradicts e u) (fits_in z.state p (step e u)) (demands.no_room i)) z.same-policy

  took : (a b : Past) (g j : ℕ) → answer_to a (event p i x g) ≡ 0 → answer_to b (event p i x j) ≡ demands.no_room i → Reasons a b p (event p i x g) → demands.TookRoom p a (event p i x g) b (event p i x j)
  took a b g j f m r = record {
    recorded = f;
    unfit = unfit-is i (answer_to b (event p i x j)) m;
    before = r.before;
    after = r.after;
    room = r.room;
    no_room = r.no_room;
  }

  events-far : (g j : ℕ) → is_policy_state g ≡ is_policy_state j → g + policy k ≡ j + policy h
      → (answer_to k (event p i x j) ≡ answer_to h (event p i x g)) ⊎ (demands.TookRoom p h (event p i x g) k (event p i x j) ⊎ demands.TookRoom p k (event p i x j) h (event p i x g))
  unfolding answer_by
  events-far g j same far =
      go (valid p) (leb i last_kind) (known (roles h) e) refl (is_late e (policy h) g) (is_ahead e (policy h) g) (contradicts e u) refl (fits_in (holds h).state p (step e u)) refl (fits_in (holds k).state p (step e u)) refl
      (answer-of h g refl refl)
      (answer-of k j count row ∙ ap₂ {C = ℕ} (λ (t a : Bool). answer_by (valid p) (leb i last_kind) (known (roles h) e) t a (contradicts e u) (fits_in (holds k).state p (step e u)) (demands.no_room i))
      (sym (same-late e (policy h) (policy k) g j far)) (sym (same_ahead e (policy h) (policy k) g j far same)))
    where
      go : (v b m : Bool) → known (roles h) e ≡ m → (t a c : Bool) → contradicts e u ≡ c → (f : Bool) → fits_in (holds h).state p (step e u) ≡ f → (f' : Bool) → fits_in (holds k).state p (step e u) ≡ f'
          → answer_to h (event p i x g) ≡ answer_by v b m t a c f (demands.no_room i) → answer_to k (event p i x j) ≡ answer_by v b m t a c f' (demands.no_room i)
          → (answer_to k (event p i x j) ≡ answer_to h (event p i x g)) ⊎ (demands.TookRoom p h (event p i x g) k (event p i x j) ⊎ demands.TookRoom p k (event p i x j) h (event p i x g))
      go false b m q t a c r f s f' s' o o' = inl (o' ∙ sym o)
      go true false m q t a c r f s f' s' o o' = inl (o' ∙ sym o)
      go true true false q t a c r f s f' s' o o' = inl (o' ∙ sym o)
      go true true true q true a c r f s f' s' o o' = inl (o' ∙ sym o)
      go true true true q false true c r f s f' s' o o' = inl (o' ∙ sym o)
      go true true true q false false true r f s f' s' o o' = inl (o' ∙ sym o)
      go true true true q false false false r true s true s' o o' = inl (o' ∙ sym o)
      go true true true q false false false r false s false s' o o' = inl (o' ∙ sym o)
      go true true true q false false false r true s false s' o o' =
          inr (inl (took h k g j o o' (reasons h k p row e (subst⁻¹ T q tt) (subst⁻¹ (λ (z : Bool). T (not z)) r tt) s s' (event p i x g) (event-roles h p i x g) (recorded_row h p i x g o))))
      go true true true q false false false r false s true s' o o' =
          inr (inr (took k h j g o' o (reasons k h p (sym row) e (subst⁻¹ (λ (z : ℕ). T (known z e)) count (subst⁻¹ T q tt))
          (subst⁻¹ (λ (w : Row). T (not (contradicts e w))) row (subst⁻¹ (λ (z : Bool). T (not z)) r tt))
          (subst⁻¹ (λ (w : Row). fits_in (holds k).state p (step e w) ≡ true) row s')
          (subst⁻¹ (λ (w : Row). fits_in (holds h).state p (step e w) ≡ false) row s)
          (event p i x j) (event-roles k p i x j) (recorded_row k p i x j o'))))

  -- the state is one further on k
  event-moved : policy k ≡ suc (policy h) → (g : ℕ)
      → (answer_to k (event p i x g) ≡ answer_to h (event p i x g))
      ⊎ (((g ≡ due e (policy h)) × (answer_to k (event p i x g) ≡ 13)) ⊎ ((g ≡ due e (policy k)) × (answer_to h (event p i x g) ≡ 14)))
  unfolding answer_by
  event-moved on g = go (valid p) (leb i last_kind) (known (roles h) e) (answer-of h g refl refl) (answer-of k g count row)
    where
      next : due e (policy k) ≡ suc (due e (policy h))
      next = ap (due e) on ∙ step-on (is_reply e)
        where
          step-on : (b : Bool) → cond b (suc (policy h)) (suc (suc (policy h))) ≡ suc (cond b (policy h) (suc (policy h)))
          step-on true = refl
          step-on false = refl

      go : (v b m : Bool) → answer_to h (event p i x g) ≡ answer_by v b m (is_late e (policy h) g) (is_ahead e (policy h) g) (contradicts e u) (fits_in (holds h).state p (step e u)) (demands.no_room i)
          → answer_to k (event p i x g) ≡ answer_by v b m (is_late e (policy k) g) (is_ahead e (policy k) g) (contradicts e u) (fits_in (holds k).state p (step e u)) (demands.no_room i)
          → (answer_to k (event p i x g) ≡ answer_to h (event p i x g))
          ⊎ (((g ≡ due e (policy h)) × (answer_to k (event p i x g) ≡ 13)) ⊎ ((g ≡ due e (policy k)) × (answer_to h (event p i x g) ≡ 14)))
      go false b m o o' = inl (o' ∙ sym o)
      go true false m o o' = inl (o' ∙ sym o)
      go true true false o o' = inl (o' ∙ sym o)
      go true true true o o' = elim (ℕ_discrete g (due e (policy h))) [
        | yes q ↦ inr (inl (q, rw (lt-ltb g (due e (policy k)) (omega (arith, next, q))) at o'))
        | no q ↦ elim (ℕ_discrete g (due e (policy k))) [
          | yes r ↦ inr (inr (r, rw (le-ltb g (due e (policy h)) (omega (arith, next, r)), lt-ltb (due e (policy h)) g (omega (arith, next, r))) at o))
          | no r ↦ ⊎_elim
              (λ t. let lt : g < due e (policy h) = ltb→lt g (due e (policy h)) t in
              inl (rw (lt-ltb g (due e (policy k)) (omega (arith, next, lt))) at o' ∙ sym (rw (lt-ltb g (due e (policy h)) lt) at o)))
              (λ t. let ge : due e (policy h) ≤ g = nltb→le g (due e (policy h)) t in
              let past : due e (policy k) < g = omega (arith, next, ge, q, r) in
              let past-too : due e (policy h) < g = omega (arith, next, ge, q, r) in
              inl (rw (le-ltb g (due e (policy k)) (omega (arith, past)), lt-ltb (due e (policy k)) g past) at o'
              ∙ sym (rw (le-ltb g (due e (policy h)) (omega (arith, past-too)), lt-ltb (due e (policy h)) g past-too) at o)))
              (T? (ltb g (due e (policy h))))
        ]
      ]

-- ---- any two calls

-- what the other calls answer hangs on the area's length alone, or on the permission alone
opens : (h : Past) (n g : ℕ) → (open_of (area h) n g).answer ≡ cond (leb 1 n && leb n most_roles) 0 2
opens h n g = go (leb 1 n && leb n most_roles) refl
  where
    sized : eqb (length (area h)) area_bytes ≡ true
    sized = eq-eqb (length (area h)) area_bytes (ap (λ (l : List ℕ). length l) (holds h).same_area ∙ length-area (holds h).state (holds h).good)

    go : (b : Bool) → (leb 1 n && leb n most_roles) ≡ b → (open_of (area h) n g).answer ≡ cond b 0 2
    go true b = ap (λ (o : Out). o.answer) (open-recorded (area h) n g sized b)
    go false b = ap (λ (o : Out). o.answer) (open-bad-count (area h) n g sized b)

forgets : (h : Past) (q : ℕ) → (forget_of (area h) q).answer ≡ cond (valid q) 0 3
forgets h q = ap (λ (l : List ℕ). (forget_of l q).answer) (holds h).same_area ∙ go (valid q) refl
  where
    s : State
    s = (holds h).state

    go : (v : Bool) → valid q ≡ v → (forget_of (area_of s) q).answer ≡ cond v 0 3
    go true v = ap (λ (o : Out). o.answer) (forget-forgets (area_of s) q (area-is-good s (holds h).good) v)
    go false v = ap (λ (o : Out). o.answer) (forget-no-permission (area_of s) q (area-is-good s (holds h).good) v)

other-calls : (h : Past) (p : ℕ) (c d : Call) → ¬ (demands.About p c) → demands.About p d → ¬ (demands.IsEvent d) → answer_to (called h c) d ≡ answer_to h d
unfolding out_of
other-calls h p c (opening n g b) x y z = opens (called h c) n g ∙ sym (opens h n g)
other-calls h p c (event q i x' g) x y z = absurd (z tt)
other-calls h p c (ask q s) x y z = ap (λ (d : Decided). d.answer) (no_other h c q s (subst⁻¹ (λ (r : ℕ). ¬ (demands.About r c)) y x))
other-calls h p c (forget q) x y z = forgets (called h c) q ∙ sym (forgets h q)

-- ---- the policy state after a call about one permission

event-policy : (s : State) (p : ℕ) (e : Numbered) (o : Out) → Outcome s p e o → (policy_on e o.answer s.policy ≡ s.policy) ⊎ (policy_on e o.answer s.policy ≡ suc s.policy)
event-policy s p e o (refused a x y) = inl (policy_on-refused e a s.policy x y)
event-policy s p e o (recorded d k c g) = due-one (is_reply e.happening) (policy_on-recorded e s.policy d ∙ d)
  where
    due-one : (b : Bool) → policy_on e 0 s.policy ≡ cond b s.policy (suc s.policy) → (policy_on e 0 s.policy ≡ s.policy) ⊎ (policy_on e 0 s.policy ≡ suc s.policy)
    due-one true q = inl q
    due-one false q = inr q
event-policy s p e o (forgotten d r g) = inr (policy_on-forgotten e s.policy r ∙ d ∙ ap (λ (b : Bool). cond b s.policy (suc s.policy)) r)

moves : (h : Past) (p : ℕ) (c : Call) → ¬ (demands.About p c) → (policy (called h c) ≡ policy h) ⊎ (policy (called h c) ≡ suc (policy h))
unfolding policy policy_after out_of
moves h p (opening n g b) x = absurd (x tt)
moves h p (event q i y g) x =
    let k = holds h in
    let e : Numbered = numbered (happened i y) g in
    subst (λ (j : ℕ). (policy_on e (event_of (area h) q i y g).answer j ≡ j) ⊎ (policy_on e (event_of (area h) q i y g).answer j ≡ suc j)) k.same-policy
    (subst⁻¹ (λ (l : List ℕ). (policy_on e (event_of l q i y g).answer k.state.policy ≡ k.state.policy) ⊎ (policy_on e (event_of l q i y g).answer k.state.policy ≡ suc k.state.policy)) k.same_area
    (event-policy k.state q e _ (event-does k.state k.good q i y g)))
moves h p (ask q s) x = inl refl
moves h p (forget q) x = inl refl

module _ (h : Past) (p : ℕ) (c : Call) (d : ¬ (demands.About p c)) (i x g : ℕ) where
  abbrev before : ℕ
  before = answer_to h (event p i x g)

  abbrev after : ℕ
  after = answer_to (called h c) (event p i x g)

  answers : (after ≡ before) ⊎ ((before ≡ 14) ⊎ ((after ≡ 13) ⊎ (demands.TookRoom p h (event p i x g) (called h c) (event p i x g) ⊎ demands.TookRoom p (called h c) (event p i x g) h (event p i x g))))
  answers = ⊎_elim
      (λ stayed. ⊎_elim inl (λ r. inr (inr (inr r))) (events-far h (called h c) p i x (other-roles h c p d) (other_row h c p d) g g refl (ap (λ (j : ℕ). g + j) stayed)))
      (λ on. ⊎_elim inl (⊎_elim (λ r. inr (inr (inl r.1))) (λ r. inr (inl r.1))) (event-moved h (called h c) p i x (other-roles h c p d) (other_row h c p d) on g))
      (moves h p c d)

pub others : demands.Others
others = record {
  answers = answers;
  calls = other-calls;
  moves = moves;
  events = λ h p c d i x g j. events-far h (called h c) p i x (other-roles h c p d) (other_row h c p d) g j;
  late-or-timely = λ h p c d on i x g. event-moved h (called h c) p i x (other-roles h c p d) (other_row h c p d) on g;
}
