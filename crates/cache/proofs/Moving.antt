-- An area in the policy state that an event names. Assumes nothing.
use mathlib.Core.Path.{◌≡◌, refl, sym, ap, ◌∙◌, subst⁻¹}
use mathlib.Core.Bool.{Bool, true, false, cond}
use mathlib.Core.List.{List}
use Prim.Native.Nat.{ℕ, suc, ◌≤◌}
use lib.Dec.{T, le→leb}
use Rattle.words.specs.Words.{Bytes}
use Rattle.meaning.specs.declared.Happening.{Happening}
use Rattle.meaning.specs.Events.{known, is_reply, last_policy_state}
use Rattle.meaning.specs.Rows.{Row, Settled, settle}
use Rattle.meaning.proofs.Answers.{contradicts-reply, Case, refused, taken, no_room, dropped, case}
use Rattle.meaning.specs.States.{due}
use Rattle.area.specs.State.{State, in_policy, GoodState, row_for, state_of, area_of}
use Rattle.area.proofs.Bytes.{good-state, good-area, area-good, area-state}
use Rattle.table.specs.Table.{Sound}
use Rattle.table.proofs.RowWords.{sound}
use Rattle.calls.specs.Calls.{fits_in, settled_in, event_in}
use Rattle.calls.proofs.CallLaws.{event_on, event-in}
use Rattle.calls.proofs.Outcomes.{policy-state}
use Rattle.cache.specs.Here.{event_here}

-- an update is recorded or forgotten, so it leaves nothing of the bytes that it found
update-anywhere : (l m : List ℕ) (s : State) (p : ℕ) (e : Happening) (w : Row) → is_reply e ≡ false → event_on l s p e w ≡ event_on m s p e w
unfolding event_on
update-anywhere l m s p e w u = go (settle (fits_in s p) e w) (case (fits_in s p) e w)
  where
    no : {A : Type 0} → T (is_reply e) → A
    no r = absurd (subst⁻¹ T (sym u) r)

    go : (t : Settled) → Case (fits_in s p) e w t → settled_in l s p t ≡ settled_in m s p t
    go t (refused c) = no (contradicts-reply e w c)
    go t (taken c f) = refl
    go t (no_room r c f) = no r
    go t (dropped r f) = refl

module _ (l : List ℕ) (s : Sound l) (bytes : Bytes l) (e : Happening) (g : ℕ) (now : g ≡ due e (state_of l).policy) where
  -- a reply finds the area in its state
  pub reply-found : is_reply e ≡ true → area_of (in_policy g (state_of l)) ≡ l
  reply-found r =
      let q : g ≡ (state_of l).policy = now ∙ ap (λ (b : Bool). cond b (state_of l).policy (suc (state_of l).policy)) r in
      ap (λ (i : ℕ). area_of (in_policy i (state_of l))) q ∙ good-area l s.good bytes

  module _ (small : g ≤ last_policy_state) where
    abbrev there : List ℕ
    there = area_of (in_policy g (state_of l))

    there-good : GoodState (in_policy g (state_of l))
    there-good = policy-state (state_of l) (good-state l s.good) g (le→leb g last_policy_state small)

    pub there-sound : Sound there
    there-sound = sound there (area-good (in_policy g (state_of l)) there-good)

    there-state : state_of there ≡ in_policy g (state_of l)
    there-state = area-state (in_policy g (state_of l)) there-good

    pub there-known : T (known (state_of l).roles e) → T (known (state_of there).roles e)
    there-known k = subst⁻¹ (λ (t : State). T (known t.roles e)) there-state k

    -- so the event may be entered there
    pub event-there : (p : ℕ) → event_here there p e ≡ event_in l p e g
    event-there p =
        event-in there p e (state_of there).policy
        ∙ ap (λ (t : State). event_on there t p e (row_for p t.rows)) there-state
        ∙ go (is_reply e) refl
        ∙ sym (event-in l p e g)
      where
        go : (b : Bool) → is_reply e ≡ b → event_on there (in_policy g (state_of l)) p e (row_for p (state_of l).rows) ≡ event_on l (in_policy g (state_of l)) p e (row_for p (state_of l).rows)
        go true r = ap (λ (m : List ℕ). event_on m (in_policy g (state_of l)) p e (row_for p (state_of l).rows)) (reply-found r)
        go false r = update-anywhere there l (in_policy g (state_of l)) p e (row_for p (state_of l).rows) r
