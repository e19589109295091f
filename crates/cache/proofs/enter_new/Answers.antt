-- `cache::enter_new` meets its contract. Assumes nothing.
use mathlib.Core.Path.{◌≡◌, refl, sym, ap, ◌∙◌, subst}
use mathlib.Core.List.{List}
use mathlib.Core.Logic.{◌≢◌}
use Prim.Native.Nat.{ℕ}
use Rattle.roles.proofs.Tests.{unlike}
use Rattle.words.specs.Words.{Bytes}
use Rattle.meaning.specs.declared.Happening.{Happening}
use Rattle.meaning.specs.Rows.{Row, blank, fits, Settled, forgotten, settle}
use Rattle.meaning.proofs.Answers as answers
use Rattle.meaning.proofs.Answers.{Case, taken, no_room, dropped, case}
use Rattle.area.specs.State.{state_of}
use Rattle.rows.specs.Stored.{stored_row, refusal_number}
use Rattle.rows.specs.declared.Row as value
use Rattle.rows.proofs.Padded.{stored⇒row}
use Rattle.table.specs.Table.{rows_in, Sound, found_for}
use Rattle.std.specs.Prelude.{Err}
use Rattle.std.proofs.lemmas.Result.{err_from_is_err_and}
use Rattle.rows.specs.declared.Refusal.{Refusal}
use Rattle.rows.specs.Stored as rows
use Rattle.calls.specs.Calls.{stays, settled_in}
use Rattle.calls.specs.Answers.{Gives}
use Rattle.cache.specs.Fresh.{Fresh}
use Rattle.cache.specs.Here.{event_here}
use Rattle.cache.proofs.Ladder.{gives, settled-refused, refused-stays, refused-some, settled-stays}
use Rattle.cache.proofs.Writes.{event-none, area-kept, blank-proper, known-64}
use Rattle.cache.proofs.enter_new.Goals.{After-settle}
use Rattle.cache.proofs.enter_new.Goals as goal

-- ---- the cases, by the answer of the step

module _ (l : List ℕ) (s : Sound l) (p i : ℕ) (e : Happening) (f : found_for p (rows_in l) ≡ Err i) where
  refused : (settle fits e blank).answer ≢ 0 → event_here l p e ≡ settled_in l (state_of l) p (settle fits e blank)
  refused n = event-none l s p i f e ∙ settled-refused l (state_of l) p e blank n

  -- 6 and 7
  refuses : (r : Refusal) → (settle fits e blank).answer ≡ refusal_number r → Gives (event_here l p e) (refusal_number r) l
  refuses r a =
      gives (event_here l p e) (refusal_number r) l
      (refused (λ z. refused-some r (sym a ∙ z)) ∙ settled-stays l (state_of l) p (settle fits e blank) (refusal_number r) a (refused-stays r))

  -- there is no row to be dropped
  drops : Bytes l → settle fits e blank ≡ forgotten → Gives (event_here l p e) 8 l
  drops bytes a =
      gives (event_here l p e) 8 l
      (refused (λ z. unlike tt (sym (ap (λ (t : Settled). t.answer) a) ∙ z)) ∙ ap (settled_in l (state_of l) p) a ∙ ap (stays 8) (area-kept l s p i f blank refl bytes))

fresh : (e : Happening) (w : value.Row) → w ≡ stored_row (settle fits e blank).row → (settle fits e blank).answer ≡ 0 → Fresh e w
fresh e w = go (settle fits e blank) (case fits e blank)
  where
    go : (t : Settled) → Case fits e blank t → w ≡ stored_row t.row → t.answer ≡ 0 → Fresh e w
    go t (answers.refused c) q a = unlike tt a
    go t (taken c f) q a = record { agrees = c; room = f; row = q }
    go t (no_room r c f) q a = unlike tt a
    go t (dropped r f) q a = unlike tt a

-- ---- the needs

pub settle-requires : goal.settle-requires
settle-requires c = (blank-proper c.blank.result c.blank.ensures, known-64 c.args.a.now c.requires.0 c.args.e c.requires.2)

said : (c : After-settle) → rows.Gives blank (settle fits c.args.e blank) c.settle.result
said c = subst (λ (w : Row). rows.Gives w (settle fits c.args.e w) c.settle.result) (stored⇒row c.blank.result blank c.blank.ensures) c.settle.ensures

pub returns-in_err-w : goal.returns-in_err-w
returns-in_err-w c =
    let q = err_from_is_err_and c.from_residual.result c.from_residual.ensures.1 in
    let g = rw c.in_err-w.was at (said (goal.at.returns-in_err-w c).After-settle) in
    rw (q.1, q.2) (refuses c.args.a.now c.requires.0 c.args.p c.args.i c.args.e c.requires.1 c.in_err-w.field-0.0 (ap (λ (t : Settled). t.answer) g))

pub put_new-requires : goal.put_new-requires
put_new-requires c =
    let g = rw (c.in_ok-w.was, c.in-Recorded.is) at (said (goal.at.put_new-requires c).After-settle) in
    (c.requires.0, c.requires.1, fresh c.args.e c.in-Recorded.w g.1 g.0)

pub returns-in-Forgotten : goal.returns-in-Forgotten
returns-in-Forgotten c =
    let g = rw (c.in_ok-w.was, c.in-Forgotten.is) at (said (goal.at.returns-in-Forgotten c).After-settle) in
    drops c.args.a.now c.requires.0 c.args.p c.args.i c.args.e c.requires.1 (λ p. (c.type_inv.a p).fits) g
