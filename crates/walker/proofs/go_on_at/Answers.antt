-- `walker::go_on_at` meets its contract. Assumes nothing.
use mathlib.Core.Path.{sym, ◌∙◌}
use Rattle.walker.proofs.WalkLaws.{go_on_at-good, go_on_at-bad}
use Rattle.walker.proofs.go_on_at.Goals as goal

pub returns-then-not-check : goal.returns-then-not-check
returns-then-not-check c = let a = c.args in sym (go_on_at-bad a.a.now a.next (sym c.check.ensures ∙ c.if-not-check.true))

pub returns : goal.returns
returns c = let a = c.args in sym (go_on_at-good a.a.now a.next (sym c.check.ensures ∙ c.if-not-check.false))
