-- `cache::hear` meets its contract, whatever numbers tell the happening. Assumes nothing.
use mathlib.Core.Path.{◌≡◌, sym, ap, ap₂, ◌∙◌, subst, subst⁻¹}
use mathlib.Core.Bool.{Bool, true}
use mathlib.Core.List.{List}
use Prim.Native.Nat.{ℕ, ◌≤◌}
use native.Mathlib.Omega.{arith}
use Rattle.meaning.specs.declared.Happening.{Happening}
use Rattle.meaning.specs.Events.{known, last_policy_state}
use Rattle.meaning.specs.States.{due}
use Rattle.meaning.specs.Kinds.{happened, Told}
use Rattle.std.specs.Prelude.{Ok}
use Rattle.area.specs.Layout.{good_bytes}
use Rattle.area.specs.State.{state_of}
use Rattle.area.proofs.Bytes.{good-state}
use Rattle.table.specs.Table.{Sound}
use Rattle.table.proofs.RowWords.{sound}
use Rattle.calls.specs.Calls.{event_in}
use Rattle.calls.specs.Answers.{kept_number, number_of, Gives}
use Rattle.cache.proofs.Calling.{is_true}
use Rattle.cache.proofs.Fronts.{event-4, event-13, event-14, event-go}
use Rattle.cache.proofs.hear.Goals.{After-due-due}
use Rattle.cache.proofs.hear.Goals as goal

is-sound : (l : List ℕ) → good_bytes l ≡ true → Sound l
is-sound l h = sound l (is_true _ h)

-- the test asked of the happening, with the role count that was read
known_at : (l : List ℕ) (n : ℕ) (e : Happening) (b t : Bool) → n ≡ (state_of l).roles → b ≡ known n e → b ≡ t → known (state_of l).roles e ≡ t
known_at l n e b t q h k = sym (ap (λ (x : ℕ). known x e) q) ∙ sym h ∙ k

pub role_count-requires : goal.role_count-requires
role_count-requires c = is-sound c.args.a.now c.requires.0

pub returns-then-not-is_known : goal.returns-then-not-is_known
returns-then-not-is_known c = λ k x t.
    let l = c.args.a.now in
    event-4 l c.args.event.permission k x c.args.event.state c.requires.0 c.requires.1 t.0
    (sym (ap (known (state_of l).roles) t.1) ∙ known_at l c.role_count.result c.args.event.happening _ _ c.role_count.ensures c.is_known.ensures c.if-not-is_known.true)

pub policy_state-requires : goal.policy_state-requires
policy_state-requires c = is-sound c.args.a.now c.requires.0

pub due-due-requires : goal.due-due-requires
due-due-requires c =
    subst⁻¹ (λ (i : ℕ). i ≤ last_policy_state) c.policy_state.ensures (good-state c.args.a.now (is-sound c.args.a.now c.requires.0).good).policy-small

-- past the refusal 4, by the numbers that told the happening
module _ (c : After-due-due) (k x : ℕ) (t : Told k x (Ok c.args.event.happening)) where
  abbrev l : List ℕ
  l = c.args.a.now

  is_known : known (state_of l).roles c.args.event.happening ≡ true
  is_known = known_at l c.role_count.result c.args.event.happening _ _ c.role_count.ensures c.is_known.ensures c.if-not-is_known.false

  told-known : known (state_of l).roles (happened k x) ≡ true
  told-known = sym (ap (known (state_of l).roles) t.1) ∙ is_known

  is-due : c.due-due.result ≡ due (happened k x) (state_of l).policy
  is-due = c.due-due.ensures ∙ ap₂ {C = ℕ} (λ (f : Happening) (i : ℕ). due f i) t.1 c.policy_state.ensures

pub returns-then-state-due-2 : goal.returns-then-state-due-2
returns-then-state-due-2 c = λ k x t.
    let s = (goal.at.returns-then-state-due-2 c).After-due-due in
    event-13 c.args.a.now c.args.event.permission k x c.args.event.state c.requires.0 c.requires.1 t.0 (told-known s k x t) c.due-due.result (is-due s k x t) c.if-state-due-2.true

pub returns-then-state-due : goal.returns-then-state-due
returns-then-state-due c = λ k x t.
    let s = (goal.at.returns-then-state-due c).After-due-due in
    event-14 c.args.a.now c.args.event.permission k x c.args.event.state c.requires.0 c.requires.1 t.0 (told-known s k x t) c.due-due.result (is-due s k x t)
    (omega (arith, c.if-state-due.true, c.if-state-due-2.false))

pub enter-requires : goal.enter-requires
enter-requires c =
    let l = c.args.a.now in (
      is-sound c.args.a.now c.requires.0,
      is_true _ (known_at l c.role_count.result c.args.event.happening _ _ c.role_count.ensures c.is_known.ensures c.if-not-is_known.false),
      c.if-state-due.false ∙ c.due-due.ensures ∙ ap (λ (i : ℕ). due c.args.event.happening i) c.policy_state.ensures,
      omega arith,
    )

pub returns : goal.returns
returns c = λ k x t.
    let s = (goal.at.returns c).After-due-due in
    event-go c.args.a.now c.args.event.permission k x c.args.event.state c.requires.0 c.requires.1 t.0 (told-known s k x t) c.due-due.result (is-due s k x t) c.if-state-due.false (omega arith) _ _
    (subst (λ (f : Happening). Gives (event_in c.args.a.now c.args.event.permission f c.args.event.state) (number_of kept_number c.enter.result) c.enter.new.a) t.1 c.enter.ensures)
