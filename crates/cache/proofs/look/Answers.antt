-- `cache::look` meets its contract. Assumes nothing.
use mathlib.Core.Path.{ap, ◌∙◌, subst⁻¹}
use Prim.Native.Nat.{ℕ}
use Rattle.std.specs.Prelude.{Ok}
use Rattle.std.proofs.lemmas.Result.{err_from_is_err_and}
use Rattle.meaning.specs.Rows.{decide}
use Rattle.rows.specs.Stored.{row_of}
use Rattle.table.specs.Table.{Sound}
use Rattle.table.proofs.RowWords.{sound}
use Rattle.calls.specs.Calls.{Look}
use Rattle.calls.proofs.Numbers.{refused}
use Rattle.cache.specs.Sees.{Sees}
use Rattle.cache.proofs.Calling.{row-tidy, row-decides, is_true}
use Rattle.cache.proofs.Fronts.{asked-good, look-lets, look-refused}
use Rattle.cache.proofs.look.Goals.{In_ok-session}
use Rattle.cache.proofs.look.Goals as goal

-- past the refusals
is-sound : (c : In_ok-session) → Sound c.args.a.now
is-sound c = sound c.args.a.now (is_true _ (asked-good c.args.a.now c.args.p c.args.s c.in_ok-session.ensures.0))

pub returns-in_err-session : goal.returns-in_err-session
returns-in_err-session c =
    let p = err_from_is_err_and c.from_residual.result c.from_residual.ensures.1 in
    rw (p.1, p.2) (look-refused c.args.a.now c.args.p c.args.s _ (refused c.in_err-session.field-0.0) c.in_err-session.ensures)

pub row_for-row-requires : goal.row_for-row-requires
row_for-row-requires c = is-sound (goal.at.row_for-row-requires c).In_ok-session

pub decide-requires : goal.decide-requires
decide-requires c = row-tidy c.args.a.now (is-sound (goal.at.decide-requires c).In_ok-session) c.args.p c.row_for-row.result c.row_for-row.ensures

pub returns : goal.returns
returns c =
    let l = c.args.a.now in
    let s = is-sound (goal.at.returns c).In_ok-session in
    let d =
    c.decide.ensures
    ∙ ap (λ (t : ℕ). decide (row_of c.row_for-row.result) t) c.in_ok-session.ensures.1
    ∙ row-decides l s c.args.p c.row_for-row.result c.row_for-row.ensures c.args.s in
    subst⁻¹ (λ (k : Look). Sees k (Ok (record { verdict = c.decide.result; row = c.row_for-row.result })))
    (look-lets l c.args.p c.args.s c.in_ok-session.ensures.0) (d, c.row_for-row.ensures)
