-- `walker::begin` meets its contract. Assumes nothing.
use mathlib.Core.Path.{sym, ◌∙◌}
use Rattle.walker.proofs.WalkLaws.{begun-good, begun-bad}
use Rattle.walker.proofs.begin.Goals as goal

pub returns-then-not-check : goal.returns-then-not-check
returns-then-not-check c = sym (begun-bad c.args.a.now (sym c.check.ensures ∙ c.if-not-check.true))

pub returns : goal.returns
returns c = sym (begun-good c.args.a.now (sym c.check.ensures ∙ c.if-not-check.false))
