-- `cache::forget` meets its contract. Assumes nothing.
use mathlib.Core.Path.{sym}
use Rattle.std.proofs.lemmas.Result.{err_from_is_err_and}
use Rattle.table.proofs.RowWords.{sound}
use Rattle.calls.proofs.Numbers.{refused}
use Rattle.cache.proofs.Calling.{is_true}
use Rattle.cache.proofs.Fronts.{passed, forget-refused, forget-go}
use Rattle.cache.proofs.forget.Goals as goal

pub returns-in_err-about : goal.returns-in_err-about
returns-in_err-about c =
    let p = err_from_is_err_and c.from_residual.result c.from_residual.ensures.1 in
    let r = c.in_err-about.field-0.0 in
    rw (p.1, p.2) (forget-refused c.args.a.now c.args.p _ (refused r) c.in_err-about.ensures)

pub forget_row-requires : goal.forget_row-requires
forget_row-requires c = sound c.args.a.now (is_true _ (passed c.args.a.now c.args.p (sym c.in_ok-about.ensures)).0)

pub returns : goal.returns
returns c = let q = passed c.args.a.now c.args.p (sym c.in_ok-about.ensures) in forget-go c.args.a.now c.args.p _ q.0 q.1 c.forget_row.ensures
