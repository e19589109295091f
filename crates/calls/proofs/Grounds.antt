-- Demand 1: each answer exactly on its ground. Assumes nothing.
use mathlib.Core.Path.{◌≡◌, refl, ap, ◌∙◌, subst, subst⁻¹}
use mathlib.Core.Bool.{Bool, true, false, not, cond, ◌&&◌}
use mathlib.Core.List.{List, [], ◌∷◌}
use mathlib.Core.Logic.{◌↔◌, ◌≢◌, inl, inr, ⊎_elim}
use Prim.Native.Nat.{ℕ, ◌^◌, ◌≤◌, ◌<◌}
use native.Mathlib.Omega.{arith}
use borrow.Author.Tests.{eq-eqb, ne_eqb}
use lib.Dec.{T, T_not, not_T, eqb, leb, eqb→eq, leb→le, le→leb, nleb→lt}
use lib.ListN.{length}
use Rattle.roles.specs.Sets.{single, all_below, part_of, most_roles}
use Rattle.roles.proofs.Tests.{T?, T_and, T_true, T_false, not_test}
use Rattle.roles.proofs.Laws.{part_of-all_below, single-below, below-single}
use Rattle.refusals.specs.Refusals.{Refusal, refusal, refuse, Ground, ground, Exactly}
use Rattle.refusals.proofs.Laws.{lacks, distinct, Tests, refuse-has, refuse-exactly}
use Rattle.meaning.specs.declared.Happening.{Happening}
use Rattle.meaning.specs.Events.{known, Verdict, is_reply, Reply}
use Rattle.meaning.specs.Rows.{Row, blank, contradicts, step, fits, bare, decide}
use Rattle.meaning.proofs.Answers.{fits-law}
use Rattle.meaning.proofs.States.{timing}
use Rattle.meaning.proofs.Theorems.{one_of_three}
use Rattle.meaning.specs.States.{is_late, is_ahead}
use Rattle.meaning.specs.Kinds.{happened}
use Rattle.meaning.proofs.KindLaws.{reply-kind, roles-kind}
use Rattle.area.specs.Layout.{most_rows, area_bytes, good_bytes}
use Rattle.area.specs.State.{State, opened, in_policy, is_blank, row_for, with_row, state_of}
use Rattle.calls.specs.Calls.{Out, stays, writes, valid, fits_in, open_refusals, area_refusals, event_refusals, event_of, open_of, decide_of, forget_of, last_kind}
use Rattle.calls.specs.Histories.{out_of}
use Rattle.calls.specs.Demands.{OnGrounds, IsRecorded, area_grounds, Unknown, Late, Ahead, NoPlace, no_room, event_grounds, Demand1}
use Rattle.calls.proofs.CallLaws.{valid-law, fits_in-law, fits_in-policy, fits_in-over, fits_in-blank, fits_in-room, event_on, event-in, event-contradicts, event-unfit, event-recorded}

-- ---- what the tests say

over : (a b : ℕ) (t : Bool) → T t ↔ (a < b) → T (not t) ↔ (b ≤ a)
over a b t i = ((λ u. let h : ¬ (a < b) = (not_test t (a < b) i).0 u in omega (arith, h)), λ h. not_T t (λ u. let k : a < b = i.0 u in omega arith))

among : (a b n : ℕ) → T (leb a n && leb n b) ↔ ((a ≤ n) × (n ≤ b))
among a b n = (
  (λ t. let q = (T_and (leb a n) (leb n b)).0 t in (leb→le a n q.0, leb→le n b q.1)),
  λ h. (T_and (leb a n) (leb n b)).1 (le→leb a n h.0, le→leb n b h.1),
)

bad_kind : (k : ℕ) → T (not (leb k last_kind)) ↔ (3 < k)
bad_kind k = ((λ t. let h : ¬ (k ≤ 3) = λ u. T_not (leb k 3) t (le→leb k 3 u) in omega (arith, h)), λ h. not_T (leb k 3) (λ t. let u : k ≤ 3 = leb→le k 3 t in omega arith))

pub unknown-set : (n s : ℕ) → T (not (part_of s (all_below n))) ↔ (2 ^ n ≤ s)
unknown-set n s = over s (2 ^ n) (part_of s (all_below n)) (part_of-all_below n s)

unknown-role : (n r : ℕ) → T (not (part_of (single r) (all_below n))) ↔ (n ≤ r)
unknown-role n r = over r n (part_of (single r) (all_below n)) ((λ t. below-single n r ((part_of-all_below n (single r)).0 t)), λ h. (part_of-all_below n (single r)).1 (single-below n r h))

pub unknown-event : (n k x : ℕ) → T (not (known n (happened k x))) ↔ Unknown n k x
unfolding known
unknown-event n k x = rw (roles-kind k x) (go (leb k 1) refl)
  where
    go : (b : Bool) → leb k 1 ≡ b → T (not (part_of (cond b x (single x)) (all_below n))) ↔ Unknown n k x
    go true e =
        let few : k ≤ 1 = leb→le k 1 (subst⁻¹ T e tt) in
        ((λ t. inl (few, (unknown-set n x).0 t)), ⊎_elim (λ u. (unknown-set n x).1 u.1) (λ u. absurd (let many : 1 < k = u.0 in let z : ⊥ = omega arith in z)))
    go false e =
        let many : 1 < k = nleb→lt k 1 (subst⁻¹ (λ (b : Bool). T (not b)) e tt) in
        ((λ t. inr (many, (unknown-role n x).0 t)), ⊎_elim (λ u. absurd (let few : k ≤ 1 = u.0 in let z : ⊥ = omega arith in z)) (λ u. (unknown-role n x).1 u.1))

-- before the state that is due, and after it
module _ (k x i g : ℕ) where
  abbrev f : Happening
  f = happened k x

  few : Reply f → k ≤ 1
  few r = leb→le k 1 (subst T (reply-kind k x) r)

  many : ¬ (Reply f) → 1 < k
  many n = let h : ¬ (k ≤ 1) = λ u. n (subst⁻¹ T (reply-kind k x) (le→leb k 1 u)) in omega (arith, h)

  pub late-event : T (is_late f i g) ↔ Late k i g
  late-event = ⊎_elim
      (λ r. let q = timing.reply-late f r i g in let h = few r in ((λ t. inl (h, q.0 t)), ⊎_elim (λ u. q.1 u.1) (λ u. absurd (let z : 1 < k = u.0 in let n : ⊥ = omega arith in n))))
      (λ r. let n : ¬ (Reply f) = T_not (is_reply f) r in let q = timing.update-late f n i g in let h = many n in
      ((λ t. inr (h, q.0 t)), ⊎_elim (λ u. absurd (let z : k ≤ 1 = u.0 in let n : ⊥ = omega arith in n)) (λ u. q.1 u.1)))
      (T? (is_reply f))

  pub ahead-event : T (is_ahead f i g) ↔ Ahead k i g
  ahead-event = ⊎_elim
      (λ r. let q = timing.reply-ahead f r i g in let h = few r in (
        (λ t. ⊎_elim (λ u. inl (h, u)) (λ u. inr (inr u)) (q.0 t)),
        ⊎_elim (λ u. q.1 (inl u.1)) (⊎_elim (λ u. absurd (let z : 1 < k = u.0 in let n : ⊥ = omega arith in n)) (λ u. q.1 (inr u))),
      ))
      (λ r. let n : ¬ (Reply f) = T_not (is_reply f) r in let q = timing.update-ahead f n i g in let h = many n in (
        (λ t. ⊎_elim (λ u. inr (inl (h, u))) (λ u. inr (inr u)) (q.0 t)),
        ⊎_elim (λ u. absurd (let z : k ≤ 1 = u.0 in let n : ⊥ = omega arith in n)) (⊎_elim (λ u. q.1 (inl u.1)) (λ u. q.1 (inr u))),
      ))
      (T? (is_reply f))

module _ (s : State) (p : ℕ) (w : Row) where
  -- where a row that is not too long has no place, it would be a new one, and 128 are used
  pub new_row : fits w ≡ true → ¬ (fits_in s p w ≡ true) → (is_blank (row_for p s.rows) ≡ true) × (is_blank w ≡ false) × (128 ≤ length s.rows)
  new_row f unfit = (
    ⊎_elim (T_true (is_blank (row_for p s.rows))) (λ r. absurd (unfit (fits_in-over s p w f (T_false (is_blank (row_for p s.rows)) r)))) (T? (is_blank (row_for p s.rows))),
    ⊎_elim (λ b. absurd (unfit (fits_in-blank s p w f (T_true (is_blank w) b)))) (T_false (is_blank w)) (T? (is_blank w)),
    (let h : ¬ (length s.rows < most_rows) = λ k. unfit (fits_in-room s p w f k) in omega (arith, h)),
  )

  no_place : T (not (fits_in s p w)) ↔ NoPlace s p w
  no_place = (
    (λ t. ⊎_elim
        (λ f. inr (new_row (T_true (fits w) f) (λ e. T_not (fits_in s p w) t (subst⁻¹ T e tt))))
        (λ f. inl (let h : ¬ (length w.opens ≤ 15) = λ k. T_not (fits w) f ((fits-law w).1 k) in omega (arith, h)))
        (T? (fits w))),
    λ n. not_T (fits_in s p w) (λ t.
        let q = fits_in-law s p w t in
        ⊎_elim
        (λ h. let k : length w.opens ≤ 15 = (fits-law w).0 q.0 in omega arith)
        (λ h. let k : length s.rows < most_rows = q.1 h.0 h.1 in let m : 128 ≤ length s.rows = h.2 in omega arith)
        n),
  )

-- ---- each call: its answer exactly on its ground, and the bytes left alone

module _ (l : List ℕ) (f : ℕ → Out) (says : (a : ℕ) → (f a).answer ≡ a) (leaves : (a : ℕ) → a ≢ 8 → (f a).area ≡ l) (R : ℕ → Type 0) where
  on-grounds : (o : Out) → R o.answer → (o.answer ≢ 0 → o.answer ≢ 8 → o.area ≡ l) → (rs : List Refusal) (gs : List Ground) → Tests rs gs → T (distinct rs) → T (lacks o.answer rs)
      → OnGrounds l (refuse rs f o) gs R
  on-grounds o r u rs gs t d k = record {
    exactly = refuse-exactly f o (λ x. x.answer) says R rs gs t d k r;
    unchanged = refuse-has f o (λ x. x.answer ≢ 0 → x.answer ≢ 8 → x.area ≡ l) rs (λ a x y. leaves a (λ z. y (says a ∙ z))) u;
  }

recorded : (l : List ℕ) (s : State) → (writes 0 s).answer ≢ 0 → (writes 0 s).answer ≢ 8 → (writes 0 s).area ≡ l
recorded l s x y = absurd (x refl)

area-tests : (l : List ℕ) (p : ℕ) (rs : List Refusal) (gs : List Ground) → Tests rs gs → Tests (area_refusals l p rs) (area_grounds l p gs)
area-tests l p rs gs t = (refl, not_test (good_bytes l) (T (good_bytes l)) ((λ x. x), (λ x. x)), (refl, not_test (valid p) _ (valid-law p), t))

module _ (l : List ℕ) (p k x g : ℕ) where
  -- the area's state; the one that an event that counts leaves it in
  abbrev s : State
  s = state_of l

  abbrev s' : State
  s' = in_policy g (state_of l)

  abbrev w : Row
  w = row_for p (state_of l).rows

  abbrev e : Happening
  e = happened k x

  -- 8 takes the row away and moves the state, the others leave every byte
  left : ℕ → Out
  left a = cond (eqb a 8) (writes a (with_row s' p blank)) (stays a l)

  left-says : (a : ℕ) → (left a).answer ≡ a
  unfolding left
  left-says a = go (eqb a 8)
    where
      go : (b : Bool) → (cond b (writes a (with_row s' p blank)) (stays a l)).answer ≡ a
      go true = refl
      go false = refl

  left_alone : (a : ℕ) → a ≢ 8 → (left a).area ≡ l
  unfolding left
  left_alone a d = rw (ne_eqb a 8 d)

  -- behind bad area and no permission: the refusals of the numbers, then those of the row
  abbrev own : List Refusal
  own =
      refusal 5 (not (leb k last_kind))
      ∷ refusal 4 (not (known (state_of l).roles e))
      ∷ refusal 13 (is_late e (state_of l).policy g)
      ∷ refusal 14 (is_ahead e (state_of l).policy g)
      ∷ refusal 6 (contradicts e w)
      ∷ refusal (cond (is_reply e) 7 8) (not (fits_in (state_of l) p (step e w)))
      ∷ []

  abbrev own-grounds : List Ground
  own-grounds =
      ground 5 (3 < k)
      ∷ ground 4 (Unknown s.roles k x)
      ∷ ground 13 (Late k s.policy g)
      ∷ ground 14 (Ahead k s.policy g)
      ∷ ground 6 (T (contradicts e w))
      ∷ ground (no_room k) (NoPlace s p (step e w))
      ∷ []

  one_list : event_of l p k x g ≡ refuse (area_refusals l p own) left (writes 0 (with_row s' p (step e w)))
  unfolding event_of left
  one_list = ap (λ (o : Out). refuse (event_refusals l p k e g) (λ a. stays a l) o) (event-in l p e g ∙ go (contradicts e w) refl (fits_in s p (step e w)) refl)
    where
      unfit : (r : Bool) → cond r (stays 7 l) (writes 8 (with_row s' p blank)) ≡ left (cond r 7 8)
      unfit true = refl
      unfit false = refl

      go : (c : Bool) → contradicts e w ≡ c → (f : Bool) → fits_in s p (step e w) ≡ f
          → event_on l s' p e w ≡ cond c (left 6) (cond (not f) (left (cond (is_reply e) 7 8)) (writes 0 (with_row s' p (step e w))))
      go true c f q = event-contradicts l s' p e w c
      go false c true q = event-recorded l s' p e w c (fits_in-policy s g p (step e w) ∙ q)
      go false c false q = event-unfit l s' p e w c (fits_in-policy s g p (step e w) ∙ q) ∙ unfit (is_reply e)

  event-answers : OnGrounds l (event_of l p k x g) (event_grounds l p k x g) IsRecorded
  event-answers =
      subst⁻¹ (λ (o : Out). OnGrounds l o (event_grounds l p k x g) IsRecorded) one_list
      (on-grounds l left left-says left_alone IsRecorded (writes 0 (with_row s' p (step e w))) refl (recorded l (with_row s' p (step e w)))
      (area_refusals l p own) (event_grounds l p k x g)
      (area-tests l p own own-grounds (
        refl,
        bad_kind k,
        (
          refl,
          unknown-event s.roles k x,
          (
            refl,
            late-event k x s.policy g,
            (
              refl,
              ahead-event k x s.policy g,
              (refl, ((λ t. t), (λ t. t)), (ap (λ (b : Bool). cond b 7 8) (reply-kind k x), no_place s p (step e w), tt)),
            ),
          ),
        ),
      ))
      (all-distinct (is_reply e)) (none-zero (is_reply e)))
    where
      -- whether it is 7 or 8, no other refusal has the number
      of : (b : Bool) → List Refusal
      of b = area_refusals l p (refusal 5 true ∷ refusal 4 true ∷ refusal 13 true ∷ refusal 14 true ∷ refusal 6 true ∷ refusal (cond b 7 8) true ∷ [])

      all-distinct : (b : Bool) → T (distinct (of b))
      all-distinct true = tt
      all-distinct false = tt

      none-zero : (b : Bool) → T (lacks 0 (of b))
      none-zero true = tt
      none-zero false = tt

module _ (l : List ℕ) where
  -- what leaves every byte
  staying : (R : ℕ → Type 0) (o : Out) → R o.answer → (o.answer ≢ 0 → o.answer ≢ 8 → o.area ≡ l) → (rs : List Refusal) (gs : List Ground) → Tests rs gs → T (distinct rs) → T (lacks o.answer rs)
      → OnGrounds l (refuse rs (λ a. stays a l) o) gs R
  staying = on-grounds l (λ a. stays a l) (λ a. refl) (λ a d. refl)

  decide-answers : (p s : ℕ) → Exactly (decide_of l p s).answer (area_grounds l p (ground 4 (2 ^ (state_of l).roles ≤ s) ∷ [])) Verdict
  unfolding decide_of
  decide-answers p s =
      let d = decide (row_for p (state_of l).rows) s in
      let v = one_of_three (row_for p (state_of l).rows) s in
      let own : List Refusal = refusal 4 (not (part_of s (all_below (state_of l).roles))) ∷ [] in
      let own-grounds : List Ground = ground 4 (2 ^ (state_of l).roles ≤ s) ∷ [] in
      refuse-exactly bare d (λ x. x.answer) (λ a. refl) Verdict (area_refusals l p own) (area_grounds l p own-grounds)
      (area-tests l p own own-grounds (refl, unknown-set (state_of l).roles s, tt)) tt
      (⊎_elim (λ e. rw e tt) (⊎_elim (λ e. rw e tt) (λ e. rw e tt)) v) v

pub demand-1 : Demand1
unfolding open_of forget_of out_of
demand-1 = record {
  open-answers = λ l n g. staying l IsRecorded (writes 0 (opened n g)) refl (recorded l (opened n g)) (open_refusals l n) _ (
    refl,
    not_test (eqb (length l) area_bytes) (length l ≡ area_bytes) (eqb→eq (length l) area_bytes, (λ e. subst⁻¹ T (eq-eqb (length l) area_bytes e) tt)),
    (refl, not_test (leb 1 n && leb n most_roles) _ (among 1 most_roles n), tt),
  ) tt tt;
  event-answers = event-answers;
  decide-answers = decide-answers;
  decide-unchanged = λ l p s. refl;
  forget-answers = λ l p. staying l IsRecorded (writes 0 (with_row (state_of l) p blank)) refl (recorded l (with_row (state_of l) p blank)) (area_refusals l p []) _
      (area-tests l p [] [] tt) tt tt;
}
