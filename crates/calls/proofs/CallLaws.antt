-- The laws of the calls' definitions, refusal by refusal. Assumes nothing.
use mathlib.Core.Path.{◌≡◌, refl, sym, ap, ◌∙◌, subst, subst⁻¹}
use mathlib.Core.Bool.{Bool, true, false, not, cond, ◌&&◌, ◌||◌, and-true, or-true}
use mathlib.Core.List.{List}
use mathlib.Core.Logic.{◌↔◌, ◌≢◌, ◌⊎◌, inl, inr, ⊎_elim}
use Prim.Native.Nat.{ℕ, ◌≤◌, ◌<◌}
use native.Mathlib.Nat.{lt_of_lt_of_le}
use native.Mathlib.Omega.{arith}
use borrow.Author.Tests.{le-leb, lt-ltb, le-ltb}
use lib.Dec.{T, eqb, ltb, leb, leb→le, ltb→lt}
use lib.ListN.{length}
use lib.Pow.{pow_mono}
use Rattle.roles.specs.Sets.{all_below, Below, part_of, most_roles}
use Rattle.roles.proofs.Tests.{T_and, T-or, unlike}
use Rattle.roles.proofs.Laws.{part_of-all_below}
use Rattle.refusals.proofs.Laws.{refuse-part, refuse-has}
use Rattle.meaning.specs.declared.Happening.{Happening}
use Rattle.meaning.specs.Events.{known, last_permission, Verdict, is_reply}
use Rattle.meaning.specs.Rows.{Row, blank, Good, most_opens, fits, contradicts, step, unchanged, forgotten, overflow, settle, Decided, bare, decide}
use Rattle.meaning.proofs.Kept.{blank-good, good-among}
use Rattle.meaning.proofs.KindLaws.{reply-kind}
use Rattle.meaning.proofs.Answers.{settle-contradicts, settle-records, settle-overflows}
use Rattle.meaning.proofs.Theorems.{one_of_three, ask-some, ask-none, ask-most}
use Rattle.meaning.specs.States.{is_late, is_ahead}
use Rattle.meaning.specs.Kinds.{happened}
use Rattle.area.specs.Layout.{most_rows, area_bytes, good_bytes}
use Rattle.area.specs.State.{State, opened, in_policy, is_blank, row_for, with_row, state_of}
use Rattle.area.proofs.RowLaws.{row_for-good, row_for-few}
use Rattle.area.proofs.Bytes.{good-state}
use Rattle.calls.specs.Calls.{Out, stays, writes, valid, fits_in, session_refusals, settled_in, event_in, event_of, open_of, decide_of, Look, seen, look_of, forget_of, last_kind}

pub valid-law : (p : ℕ) → T (valid p) ↔ ((1 ≤ p) × (p ≤ last_permission))
valid-law p = (
  (λ h. let q = (T_and (leb 1 p) (leb p last_permission)).0 h in (leb→le 1 p q.0, leb→le p last_permission q.1)),
  λ b. (T_and (leb 1 p) (leb p last_permission)).1 (subst⁻¹ T (le-leb 1 p b.0) tt, subst⁻¹ T (le-leb p last_permission b.1) tt),
)

-- ---- opening

module _ (l : List ℕ) (n g : ℕ) where
  pub open-bad-area : eqb (length l) area_bytes ≡ false → open_of l n g ≡ stays 1 l
  unfolding open_of
  open-bad-area h = rw h

  pub open-bad-count : eqb (length l) area_bytes ≡ true → (leb 1 n && leb n most_roles) ≡ false → open_of l n g ≡ stays 2 l
  unfolding open_of
  open-bad-count h k = rw (h, k)

  pub open-recorded : eqb (length l) area_bytes ≡ true → (leb 1 n && leb n most_roles) ≡ true → open_of l n g ≡ writes 0 (opened n g)
  unfolding open_of
  open-recorded h k = rw (h, k)

  -- answered 0 it leaves no rows
  pub open-law : (open_of l n g).answer ≡ 0 → (open_of l n g ≡ writes 0 (opened n g)) × T (leb 1 n && leb n most_roles)
  unfolding open_of
  open-law = go (not (eqb (length l) area_bytes)) (leb 1 n && leb n most_roles)
    where
      go : (a b : Bool) → (cond a (stays 1 l) (cond (not b) (stays 2 l) (writes 0 (opened n g)))).answer ≡ 0
          → (cond a (stays 1 l) (cond (not b) (stays 2 l) (writes 0 (opened n g))) ≡ writes 0 (opened n g)) × T b
      go true b e = unlike tt e
      go false false e = unlike tt e
      go false true e = (refl, tt)

-- ---- whether a row has a place

pub fits_in-law : (s : State) (p : ℕ) (w : Row) → T (fits_in s p w) → T (fits w) × (is_blank (row_for p s.rows) ≡ true → is_blank w ≡ false → length s.rows < most_rows)
unfolding fits_in
fits_in-law s p w h =
    let q = (T_and (fits w) (ltb (length s.rows) most_rows || (not (is_blank (row_for p s.rows)) || is_blank w))).0 h in (
      q.0,
      λ a b. ⊎_elim (ltb→lt (length s.rows) most_rows)
          (λ t. absurd (⊎_elim (λ u. subst (λ (x : Bool). T (not x)) a u) (λ u. subst T b u) ((T-or (not (is_blank (row_for p s.rows))) (is_blank w)).0 t)))
          ((T-or (ltb (length s.rows) most_rows) (not (is_blank (row_for p s.rows)) || is_blank w)).0 q.1),
    )

-- in any policy state
pub fits_in-policy : (s : State) (g p : ℕ) (w : Row) → fits_in (in_policy g s) p w ≡ fits_in s p w
unfolding fits_in
fits_in-policy s g p w = refl

pub unfit : (s : State) (p : ℕ) (w : Row) → fits w ≡ false → fits_in s p w ≡ false
unfolding fits_in
unfit s p w f = rw f

-- where there is a row, another takes its place
pub fits_in-row : (s : State) (p : ℕ) (v : Row) → is_blank (row_for p s.rows) ≡ false → fits_in s p v ≡ fits v
unfolding fits_in
fits_in-row s p v h = rw h (ap (λ (b : Bool). fits v && b) (or-true (ltb (length s.rows) most_rows)) ∙ and-true (fits v))

module _ (s : State) (p : ℕ) (v : Row) (f : fits v ≡ true) where
  pub fits_in-over : is_blank (row_for p s.rows) ≡ false → fits_in s p v ≡ true
  fits_in-over h = fits_in-row s p v h ∙ f

  pub fits_in-blank : is_blank v ≡ true → fits_in s p v ≡ true
  unfolding fits_in
  fits_in-blank h =
      ap (λ (b : Bool). b && (ltb (length s.rows) most_rows || (not (is_blank (row_for p s.rows)) || is_blank v))) f
      ∙ ap (λ (b : Bool). ltb (length s.rows) most_rows || (not (is_blank (row_for p s.rows)) || b)) h
      ∙ ap (λ (b : Bool). ltb (length s.rows) most_rows || b) (or-true (not (is_blank (row_for p s.rows))))
      ∙ or-true (ltb (length s.rows) most_rows)

  pub fits_in-room : length s.rows < most_rows → fits_in s p v ≡ true
  unfolding fits_in
  fits_in-room h = rw (f, lt-ltb (length s.rows) most_rows h)

  pub fits_in-none : is_blank (row_for p s.rows) ≡ true → is_blank v ≡ false → most_rows ≤ length s.rows → fits_in s p v ≡ false
  unfolding fits_in
  fits_in-none h k m =
      ap (λ (b : Bool). b && (ltb (length s.rows) most_rows || (not (is_blank (row_for p s.rows)) || is_blank v))) f
      ∙ ap (λ (b : Bool). b || (not (is_blank (row_for p s.rows)) || is_blank v)) (le-ltb (length s.rows) most_rows m)
      ∙ ap (λ (b : Bool). not b || is_blank v) h ∙ k

-- ---- an event of known roles that counts on a good area

-- on an area l that holds s, where w is the row of p
unfoldable pub event_on : List ℕ → State → ℕ → Happening → Row → Out
event_on l s p e w = settled_in l s p (settle (fits_in s p) e w)

pub event-in : (l : List ℕ) (p : ℕ) (e : Happening) (g : ℕ) → event_in l p e g ≡ event_on l (in_policy g (state_of l)) p e (row_for p (state_of l).rows)
unfolding event_in event_on
event-in l p e g = refl

module _ (l : List ℕ) (s : State) (p : ℕ) (e : Happening) (w : Row) where
  pub event-contradicts : contradicts e w ≡ true → event_on l s p e w ≡ stays 6 l
  unfolding event_on
  event-contradicts c = ap (settled_in l s p) (settle-contradicts (fits_in s p) e w c)

  pub event-unfit : contradicts e w ≡ false → fits_in s p (step e w) ≡ false → event_on l s p e w ≡ cond (is_reply e) (stays 7 l) (writes 8 (with_row s p blank))
  unfolding event_on overflow
  event-unfit c f = ap (settled_in l s p) (settle-overflows (fits_in s p) e w c f) ∙ go (is_reply e)
    where
      go : (b : Bool) → settled_in l s p (cond b (unchanged 7 w) forgotten) ≡ cond b (stays 7 l) (writes 8 (with_row s p blank))
      go true = refl
      go false = refl

  pub event-recorded : contradicts e w ≡ false → fits_in s p (step e w) ≡ true → event_on l s p e w ≡ writes 0 (with_row s p (step e w))
  unfolding event_on
  event-recorded c f = ap (settled_in l s p) (settle-records (fits_in s p) e w c f)

-- ---- an event as its numbers say it

module _ (l : List ℕ) (p k x g : ℕ) where
  pub event-bad-area : good_bytes l ≡ false → event_of l p k x g ≡ stays 1 l
  unfolding event_of
  event-bad-area h = rw h

  module _ (h : good_bytes l ≡ true) where
    pub event-no-permission : valid p ≡ false → event_of l p k x g ≡ stays 3 l
    unfolding event_of
    event-no-permission v = rw (h, v)

    module _ (v : valid p ≡ true) where
      pub event-bad-kind : leb k last_kind ≡ false → event_of l p k x g ≡ stays 5 l
      unfolding event_of
      event-bad-kind u = rw (h, v, u)

      module _ (u : leb k last_kind ≡ true) where
        pub event-unknown : known (state_of l).roles (happened k x) ≡ false → event_of l p k x g ≡ stays 4 l
        unfolding event_of
        event-unknown n = rw (h, v, u, n)

        module _ (n : known (state_of l).roles (happened k x) ≡ true) where
          pub event-late : is_late (happened k x) (state_of l).policy g ≡ true → event_of l p k x g ≡ stays 13 l
          unfolding event_of
          event-late t = rw (h, v, u, n, t)

          module _ (t : is_late (happened k x) (state_of l).policy g ≡ false) where
            pub event-ahead : is_ahead (happened k x) (state_of l).policy g ≡ true → event_of l p k x g ≡ stays 14 l
            unfolding event_of
            event-ahead a = rw (h, v, u, n, t, a)

            pub event-counts : is_ahead (happened k x) (state_of l).policy g ≡ false → event_of l p k x g ≡ event_in l p (happened k x) g
            unfolding event_of
            event-counts a = rw (h, v, u, n, t, a)

-- so 7 is theirs, and 8 that of the others
pub unfit-answer : (l : List ℕ) (s : State) (k x : ℕ) → (cond (is_reply (happened k x)) (stays 7 l) (writes 8 s)).answer ≡ cond (leb k 1) 7 8
unfit-answer l s k x = go (is_reply (happened k x)) ∙ ap (λ (b : Bool). cond b 7 8) (reply-kind k x)
  where
    go : (b : Bool) → (cond b (stays 7 l) (writes 8 s)).answer ≡ cond b 7 8
    go true = refl
    go false = refl

-- ---- a decision

module _ (l : List ℕ) (p s : ℕ) where
  pub decide-bad-area : good_bytes l ≡ false → decide_of l p s ≡ bare 1
  unfolding decide_of
  decide-bad-area h = rw h

  pub decide-no-permission : good_bytes l ≡ true → valid p ≡ false → decide_of l p s ≡ bare 3
  unfolding decide_of
  decide-no-permission h v = rw (h, v)

  pub decide-unknown : good_bytes l ≡ true → valid p ≡ true → part_of s (all_below (state_of l).roles) ≡ false → decide_of l p s ≡ bare 4
  unfolding decide_of
  decide-unknown h v k = rw (h, v, k)

  pub decide-decides : good_bytes l ≡ true → valid p ≡ true → part_of s (all_below (state_of l).roles) ≡ true → decide_of l p s ≡ decide (row_for p (state_of l).rows) s
  unfolding decide_of
  decide-decides h v k = rw (h, v, k)

  -- what every refusal has, and every row's decision
  decide-has : (P : Decided → Type 0) → ((a : ℕ) → P (bare a)) → ((w : Row) → P (decide w s)) → P (decide_of l p s)
  unfolding decide_of
  decide-has P r d = refuse-has bare (decide (row_for p (state_of l).rows) s) P (session_refusals l p s) r (d (row_for p (state_of l).rows))

  -- a role is named with 12 alone
  pub decide-bare : (decide_of l p s).answer ≢ 12 → (decide_of l p s).role ≡ most_roles
  decide-bare = decide-has (λ d. d.answer ≢ 12 → d.role ≡ most_roles) (λ a n. refl) (λ w. ask-none w s)

  pub decide_asks : (decide_of l p s).answer ≡ 12 → (decide_of l p s).role ≢ most_roles
  decide_asks u = go (good_bytes l) refl (valid p) refl (part_of s (all_below (state_of l).roles)) refl
    where
      not-12 : (a : ℕ) → T (not (eqb a 12)) → decide_of l p s ≡ bare a → ⊥
      not-12 a d e = unlike d (sym (ap (λ (x : Decided). x.answer) e) ∙ u)

      go : (a : Bool) → good_bytes l ≡ a → (b : Bool) → valid p ≡ b → (c : Bool) → part_of s (all_below (state_of l).roles) ≡ c → (decide_of l p s).role ≢ most_roles
      go false g b v c k = absurd (not-12 1 tt (decide-bad-area g))
      go true g false v c k = absurd (not-12 3 tt (decide-no-permission g v))
      go true g true v false k = absurd (not-12 4 tt (decide-unknown g v k))
      go true g true v true k =
          let e = decide-decides g v k in
          let few : (state_of l).roles ≤ most_roles = (good-state l (subst⁻¹ T g tt)).most-roles in
          let below : Below most_roles s = lt_of_lt_of_le ((part_of-all_below (state_of l).roles s).0 (subst⁻¹ T k tt)) (pow_mono few) in
          subst⁻¹ (λ (d : Decided). d.role ≢ most_roles) e (ask-some (row_for p (state_of l).rows) s below (sym (ap (λ (d : Decided). d.answer) e) ∙ u))

  pub decide-role : (decide_of l p s).role ≤ most_roles
  decide-role = decide-has (λ d. d.role ≤ most_roles) (λ a. omega arith) (λ w. ask-most w s)

-- ---- a look

module _ (l : List ℕ) (p s : ℕ) where
  pub look-bad-area : good_bytes l ≡ false → look_of l p s ≡ seen (bare 1) blank
  unfolding look_of
  look-bad-area h = rw h

  pub look-no-permission : good_bytes l ≡ true → valid p ≡ false → look_of l p s ≡ seen (bare 3) blank
  unfolding look_of
  look-no-permission h v = rw (h, v)

  pub look-unknown : good_bytes l ≡ true → valid p ≡ true → part_of s (all_below (state_of l).roles) ≡ false → look_of l p s ≡ seen (bare 4) blank
  unfolding look_of
  look-unknown h v k = rw (h, v, k)

  pub look-sees : good_bytes l ≡ true → valid p ≡ true → part_of s (all_below (state_of l).roles) ≡ true
      → look_of l p s ≡ seen (decide (row_for p (state_of l).rows) s) (row_for p (state_of l).rows)
  unfolding look_of
  look-sees h v k = rw (h, v, k)

  -- what holds of each refusal, and of the row's own answer on a good area
  by-look : (P : Look → Type 0) → P (seen (bare 1) blank) → P (seen (bare 3) blank) → P (seen (bare 4) blank)
      → (T (good_bytes l) → P (seen (decide (row_for p (state_of l).rows) s) (row_for p (state_of l).rows))) → P (look_of l p s)
  by-look P x y z o = go (good_bytes l) refl (valid p) refl (part_of s (all_below (state_of l).roles)) refl
    where
      go : (a : Bool) → good_bytes l ≡ a → (b : Bool) → valid p ≡ b → (c : Bool) → part_of s (all_below (state_of l).roles) ≡ c → P (look_of l p s)
      go false g b v c k = subst⁻¹ P (look-bad-area g) x
      go true g false v c k = subst⁻¹ P (look-no-permission g v) y
      go true g true v false k = subst⁻¹ P (look-unknown g v k) z
      go true g true v true k = subst⁻¹ P (look-sees g v k) (o (subst⁻¹ T g tt))

  -- decide's own answer and role
  pub look-decides : (look_of l p s).decided ≡ decide_of l p s
  unfolding look_of decide_of
  look-decides = let w : Row = row_for p (state_of l).rows in refuse-part (λ x. x.decided) (session_refusals l p s) (λ a. seen (bare a) blank) (seen (decide w s) w)

  -- where it is none of the refusals, it is the row's own answer
  pub look-answers : (look_of l p s).decided.answer ≢ 1 → (look_of l p s).decided.answer ≢ 3 → (look_of l p s).decided.answer ≢ 4 → (look_of l p s).decided ≡ decide (look_of l p s).row s
  look-answers =
      by-look (λ x. x.decided.answer ≢ 1 → x.decided.answer ≢ 3 → x.decided.answer ≢ 4 → x.decided ≡ decide x.row s)
      (λ x y z. absurd (x refl)) (λ x y z. absurd (y refl)) (λ x y z. absurd (z refl)) (λ g x y z. refl)

  -- the refusals of a look are 1, 3 and 4
  pub look-refusals : ((look_of l p s).decided.answer ≡ 1) ⊎ (((look_of l p s).decided.answer ≡ 3) ⊎ (((look_of l p s).decided.answer ≡ 4) ⊎ Verdict (look_of l p s).decided.answer))
  look-refusals =
      by-look (λ x. (x.decided.answer ≡ 1) ⊎ ((x.decided.answer ≡ 3) ⊎ ((x.decided.answer ≡ 4) ⊎ Verdict x.decided.answer)))
      (inl refl) (inr (inl refl)) (inr (inr (inl refl))) (λ g. inr (inr (inr (one_of_three (row_for p (state_of l).rows) s))))

  pub look-goes-by : Verdict (decide_of l p s).answer → decide_of l p s ≡ decide (look_of l p s).row s
  look-goes-by v =
      sym look-decides
      ∙ by-look (λ x. Verdict x.decided.answer → x.decided ≡ decide x.row s)
      (λ m. none tt tt tt m) (λ m. none tt tt tt m) (λ m. none tt tt tt m) (λ g m. refl) (subst⁻¹ (λ (x : Decided). Verdict x.answer) look-decides v)
    where
      none : {a : ℕ} {A : Type 0} → T (not (eqb a 10)) → T (not (eqb a 11)) → T (not (eqb a 12)) → Verdict a → A
      none x y z = ⊎_elim (λ e. unlike x e) (⊎_elim (λ e. unlike y e) (λ e. unlike z e))

  -- and no row is shown with a refusal
  pub look-refused : ¬ (Verdict (decide_of l p s).answer) → (look_of l p s).row ≡ blank
  look-refused n =
      by-look (λ x. ¬ (Verdict x.decided.answer) → x.row ≡ blank) (λ m. refl) (λ m. refl) (λ m. refl)
      (λ g m. absurd (m (one_of_three (row_for p (state_of l).rows) s))) (subst⁻¹ (λ (x : Decided). ¬ (Verdict x.answer)) look-decides n)

  -- the row of a look is a good one of at most 15 open sets, whatever the bytes are
  pub look-row : Good most_roles (look_of l p s).row × (length (look_of l p s).row.opens ≤ most_opens)
  look-row =
      by-look (λ x. Good most_roles x.row × (length x.row.opens ≤ most_opens)) none none none
      (λ g. let good = good-state l g in (
        good-among (state_of l).roles most_roles (row_for p (state_of l).rows) good.most-roles (row_for-good (state_of l).roles 0 p (state_of l).rows good.good-rows),
        row_for-few (state_of l).roles 0 p (state_of l).rows good.good-rows,
      ))
    where
      none : Good most_roles blank × (length blank.opens ≤ most_opens)
      none = (blank-good most_roles, omega arith)

-- ---- forgetting

module _ (l : List ℕ) (p : ℕ) where
  pub forget-bad-area : good_bytes l ≡ false → forget_of l p ≡ stays 1 l
  unfolding forget_of
  forget-bad-area h = rw h

  pub forget-no-permission : good_bytes l ≡ true → valid p ≡ false → forget_of l p ≡ stays 3 l
  unfolding forget_of
  forget-no-permission h v = rw (h, v)

  pub forget-forgets : good_bytes l ≡ true → valid p ≡ true → forget_of l p ≡ writes 0 (with_row (state_of l) p blank)
  unfolding forget_of
  forget-forgets h v = rw (h, v)
