-- `cache::event` meets its contract. Assumes nothing.
use mathlib.Core.Path.{sym}
use Rattle.std.proofs.lemmas.Result.{err_from_is_err_and}
use Rattle.calls.proofs.Numbers.{refused}
use Rattle.cache.proofs.Fronts.{passed, event-refused, event-5}
use Rattle.cache.proofs.event.Goals as goal

pub returns-in_err-about : goal.returns-in_err-about
returns-in_err-about c =
    let p = err_from_is_err_and c.from_residual.result c.from_residual.ensures.1 in
    rw (p.1, p.2) (event-refused c.args.a.now c.args.p _ (refused c.in_err-about.field-0.0) c.in_err-about.ensures c.args.kind c.args.number c.args.state)

pub returns-in_err-happening : goal.returns-in_err-happening
returns-in_err-happening c =
    let p = err_from_is_err_and c.from_residual-in_err-happening.result c.from_residual-in_err-happening.ensures.1 in
    let q = passed c.args.a.now c.args.p (sym c.in_ok-about.ensures) in
    rw (p.1, p.2) (event-5 c.args.a.now c.args.p c.args.kind c.args.number c.args.state q.0 q.1 (rw c.in_err-happening.was at c.told.ensures))
