-- What the front of a call lets pass, and the answers of the calls behind it. Assumes nothing.
use mathlib.Core.Path.{◌≡◌, refl, sym, ap, ◌∙◌, subst, subst⁻¹}
use mathlib.Core.Bool.{Bool, true, false, not, cond}
use mathlib.Core.List.{List, [], ◌∷◌}
use mathlib.Core.Logic.{◌≢◌}
use Prim.Native.Nat.{ℕ, ◌≤◌, ◌<◌}
use native.Mathlib.Omega.{arith}
use borrow.Author.Tests.{le-leb, lt-leb, lt-ltb, le-ltb}
use lib.Dec.{T, eqb, leb, le→leb}
use Rattle.roles.specs.Sets.{all_below, part_of}
use Rattle.roles.proofs.Tests.{T_and, unlike}
use Rattle.refusals.specs.Refusals.{Refusal, refusal, refuse}
use Rattle.refusals.proofs.Laws.{lacks}
use Rattle.meaning.specs.Events.{known, last_policy_state}
use Rattle.meaning.specs.Rows.{blank, bare, decide}
use Rattle.meaning.specs.States.{is_late, is_ahead, due}
use Rattle.meaning.specs.Kinds.{happened}
use Rattle.meaning.proofs.States.{due-not-late, due-not-ahead}
use Rattle.area.specs.Layout.{good_bytes}
use Rattle.area.specs.State.{row_for, with_row, state_of, area_of}
use Rattle.calls.specs.Calls.{Out, stays, writes, valid, area_refusals, session_refusals, event_in, event_of, decide_of, seen, look_of, forget_of, last_kind}
use Rattle.calls.specs.Answers.{Gives}
use Rattle.calls.proofs.CallLaws.{event-bad-kind, event-unknown, event-late, event-ahead, event-counts, forget-forgets}
use Rattle.cache.specs.First.{first}
use Rattle.cache.proofs.Ladder.{gives}

-- what the first refusal is, the call is refused with; where there is none it is not
pub refuses : {A : Type 0} (rs : List Refusal) (f : ℕ → A) (o : A) (a : ℕ) → a ≢ 0 → first rs ≡ a → refuse rs f o ≡ f a
refuses [] f o a n e = absurd (n (sym e))
refuses {A} (r ∷ rs) f o a n e = go r.applies e (refuses rs f o a n)
  where
    go : (b : Bool) → cond b r.number (first rs) ≡ a → (first rs ≡ a → refuse rs f o ≡ f a) → cond b (f r.number) (refuse rs f o) ≡ f a
    go true e h = ap f e
    go false e h = h e

pub lets : {A : Type 0} (rs : List Refusal) (f : ℕ → A) (o : A) → T (lacks 0 rs) → first rs ≡ 0 → refuse rs f o ≡ o
lets [] f o t e = refl
lets {A} (r ∷ rs) f o t e = let q = (T_and (not (eqb r.number 0)) (lacks 0 rs)).0 t in go r.applies e q.0 (lets rs f o q.1)
  where
    go : (b : Bool) → cond b r.number (first rs) ≡ 0 → T (not (eqb r.number 0)) → (first rs ≡ 0 → refuse rs f o ≡ o) → cond b (f r.number) (refuse rs f o) ≡ o
    go true e u h = unlike u e
    go false e u h = h e

-- ---- a good area and a permission

module _ (l : List ℕ) (p : ℕ) where
  pub passed : first (area_refusals l p []) ≡ 0 → (good_bytes l ≡ true) × (valid p ≡ true)
  passed = go (good_bytes l) (valid p)
    where
      go : (a b : Bool) → cond {A = ℕ} (not a) 1 (cond (not b) 3 0) ≡ 0 → (a ≡ true) × (b ≡ true)
      go false b e = unlike tt e
      go true false e = unlike tt e
      go true true e = (refl, refl)

  -- refused there, a call that has more refusals is refused so too
  pub front : {A : Type 0} (rs : List Refusal) (f : ℕ → A) (o : A) (a : ℕ) → a ≢ 0 → a ≡ first (area_refusals l p []) → refuse (area_refusals l p rs) f o ≡ f a
  front {A} rs f o a n = go (good_bytes l) (valid p)
    where
      go : (x y : Bool) → a ≡ cond (not x) 1 (cond (not y) 3 0) → cond (not x) (f 1) (cond (not y) (f 3) (refuse rs f o)) ≡ f a
      go false y e = ap f (sym e)
      go true false e = ap f (sym e)
      go true true e = absurd (n e)

  module _ (a : ℕ) (n : a ≢ 0) (e : a ≡ first (area_refusals l p [])) where
    pub event-refused : (k x g : ℕ) → Gives (event_of l p k x g) a l
    unfolding event_of
    event-refused k x g =
        let h = happened k x in
        gives (event_of l p k x g) a l
        (front (
        refusal 5 (not (leb k last_kind))
        ∷ refusal 4 (not (known (state_of l).roles h))
        ∷ refusal 13 (is_late h (state_of l).policy g)
        ∷ refusal 14 (is_ahead h (state_of l).policy g)
        ∷ []
        ) (λ b. stays b l) (event_in l p h g) a n e)

    pub asked-refused : (s : ℕ) → first (session_refusals l p s) ≡ a
    asked-refused s = front (refusal 4 (not (part_of s (all_below (state_of l).roles))) ∷ []) (λ b. b) 0 a n e

    pub forget-refused : Gives (forget_of l p) a l
    unfolding forget_of
    forget-refused = gives (forget_of l p) a l (front [] (λ b. stays b l) (writes 0 (with_row (state_of l) p blank)) a n e)

-- ---- a session

module _ (l : List ℕ) (p s : ℕ) where
  pub asked-good : first (session_refusals l p s) ≡ 0 → good_bytes l ≡ true
  asked-good = go (good_bytes l)
    where
      go : (b : Bool) → cond {A = ℕ} (not b) 1 (first (refusal 3 (not (valid p)) ∷ refusal 4 (not (part_of s (all_below (state_of l).roles))) ∷ [])) ≡ 0 → b ≡ true
      go false e = unlike tt e
      go true e = refl

  module _ (e : first (session_refusals l p s) ≡ 0) where
    pub decide-lets : decide_of l p s ≡ decide (row_for p (state_of l).rows) s
    unfolding decide_of
    decide-lets = lets (session_refusals l p s) bare (decide (row_for p (state_of l).rows) s) tt e

    pub look-lets : look_of l p s ≡ seen (decide (row_for p (state_of l).rows) s) (row_for p (state_of l).rows)
    unfolding look_of
    look-lets =
        let w = row_for p (state_of l).rows in
        lets (session_refusals l p s) (λ b. seen (bare b) blank) (seen (decide w s) w) tt e

  module _ (a : ℕ) (n : a ≢ 0) (e : first (session_refusals l p s) ≡ a) where
    pub decide-refused : decide_of l p s ≡ bare a
    unfolding decide_of
    decide-refused = refuses (session_refusals l p s) bare (decide (row_for p (state_of l).rows) s) a n e

    pub look-refused : look_of l p s ≡ seen (bare a) blank
    unfolding look_of
    look-refused =
        let w = row_for p (state_of l).rows in
        refuses (session_refusals l p s) (λ b. seen (bare b) blank) (seen (decide w s) w) a n e

-- ---- an event, its numbers first

module _ (l : List ℕ) (p k x g : ℕ) where
  module _ (h : good_bytes l ≡ true) where
    module _ (v : valid p ≡ true) where
      pub event-5 : 3 < k → Gives (event_of l p k x g) 5 l
      event-5 u = gives (event_of l p k x g) 5 l (event-bad-kind l p k x g h v (lt-leb k 3 u))

      module _ (u : k ≤ 3) where
        pub event-4 : known (state_of l).roles (happened k x) ≡ false → Gives (event_of l p k x g) 4 l
        event-4 n = gives (event_of l p k x g) 4 l (event-unknown l p k x g h v (le-leb k 3 u) n)

        -- against the state that is due
        module _ (n : known (state_of l).roles (happened k x) ≡ true) (d : ℕ) (q : d ≡ due (happened k x) (state_of l).policy) where
          pub event-13 : g < d → Gives (event_of l p k x g) 13 l
          event-13 t = gives (event_of l p k x g) 13 l (event-late l p k x g h v (le-leb k 3 u) n (lt-ltb g (due (happened k x) (state_of l).policy) (subst (λ (i : ℕ). g < i) q t)))

          pub event-14 : d < g → Gives (event_of l p k x g) 14 l
          event-14 a =
              gives (event_of l p k x g) 14 l (event-ahead l p k x g h v (le-leb k 3 u) n (le-ltb g (due (happened k x) (state_of l).policy) (omega (arith, q, a)))
              (rw (lt-ltb (due (happened k x) (state_of l).policy) g (subst (λ (i : ℕ). i < g) q a)) refl))

          pub event-go : g ≡ d → g ≤ last_policy_state → (a : ℕ) (m : List ℕ) → Gives (event_in l p (happened k x) g) a m → Gives (event_of l p k x g) a m
          event-go e small a m o =
              let now : g ≡ due (happened k x) (state_of l).policy = e ∙ q in
              subst⁻¹ (λ (y : Out). Gives y a m) (event-counts l p k x g h v (le-leb k 3 u) n (due-not-late (happened k x) (state_of l).policy g now)
              (due-not-ahead (happened k x) (state_of l).policy g now (le→leb g last_policy_state small))) o

-- ---- forgetting

module _ (l : List ℕ) (p : ℕ) where
  pub forget-go : (m : List ℕ) → good_bytes l ≡ true → valid p ≡ true → m ≡ area_of (with_row (state_of l) p blank) → Gives (forget_of l p) 0 m
  forget-go m h k e = gives (forget_of l p) 0 m (forget-forgets l p h k ∙ ap (stays 0) (sym e))
