-- `answers::show::walk` meets its contract: `Partly` of `ShowLaws.antt` holds in each turn. Assumes nothing.
use borrow.Author.Rules.{rules}
use mathlib.Core.Path.{◌∙◌}
use native.Mathlib.Omega.{arith}
use Rattle.answers.proofs.ShowLaws.{partly-length, partly-full, partly-none, partly-writable, partly-next, rows-left}
use Rattle.answers.proofs.show.walk.Goals as goal

pub overflow_sub-page : goal.overflow_sub-page
overflow_sub-page c = let p = c.loop-page.invariant.1 in omega (arith, p.inside, partly-length p)

pub returns-in_default : goal.returns-in_default
returns-in_default c = rows-left (partly-none c.loop-page.invariant.1 c.loop-page-test.true c.in_default.ensures.steps.0) (search rules)

pub write_row-requires : goal.write_row-requires
write_row-requires c = partly-writable c.loop-page.invariant.1 c.loop-page-test.true c.in-Some.ensures.steps.0

pub loop-page-preserved : goal.loop-page-preserved
loop-page-preserved c = (c.write_row.ensures.same_buffer ∙ c.loop-page.invariant.0, partly-next c.loop-page.invariant.1 c.loop-page-test.true c.in-Some.ensures.steps.0 c.next.ensures.steps.1 c.write_row.ensures.wrote)

pub returns : goal.returns
returns c = rows-left (partly-full c.loop-page.invariant.1 c.loop-page-test.false c.then_some.ensures) (search rules)
