-- `cache::tell` meets its contract, whatever numbers tell the happening. Assumes nothing.
use Rattle.std.proofs.lemmas.Result.{err_from_is_err_and}
use Rattle.calls.proofs.Numbers.{refused}
use Rattle.cache.proofs.Fronts.{event-refused}
use Rattle.cache.proofs.tell.Goals as goal

pub returns-in_err-about : goal.returns-in_err-about
returns-in_err-about c = λ k x t.
    let p = err_from_is_err_and c.from_residual.result c.from_residual.ensures.1 in
    rw (p.1, p.2) (event-refused c.args.a.now c.args.event.permission _ (refused c.in_err-about.field-0.0) c.in_err-about.ensures k x c.args.event.state)
