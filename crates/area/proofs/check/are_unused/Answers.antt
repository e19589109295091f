-- `check::are_unused` meets its contract: the words that it reads are the rows'. Assumes nothing.
use mathlib.Core.Path.{ap₂, ◌∙◌}
use mathlib.Core.Bool.{◌&&◌}
use Rattle.words.specs.Words.{words}
use Rattle.area.proofs.CheckLaws.{zero-rows}
use Rattle.area.proofs.check.are_unused.Goals as goal

pub returns : goal.returns
returns c =
    ap₂ ◌&&◌ c.are_zero.ensures c.are_zero-2.ensures ∙ zero-rows (words c.args.a.now) c.args.i c.args.n c.requires.1
