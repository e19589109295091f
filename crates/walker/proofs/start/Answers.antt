-- `walker::start` meets its contract. Assumes nothing.
use mathlib.Core.Path.{sym}
use Rattle.walker.proofs.WalkLaws.{started-at, started-bad}
use Rattle.walker.proofs.start.Goals as goal

pub returns-in_err-next : goal.returns-in_err-next
returns-in_err-next c = started-bad c.args.area c.in_err-next.field-0.0 (sym c.in_err-next.ensures) c.from_residual.result c.from_residual.ensures.0

pub returns : goal.returns
returns c = sym (started-at c.args.area c.in_ok-next.next (sym c.in_ok-next.ensures))
