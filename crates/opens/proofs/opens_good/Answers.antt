-- `opens::opens_good` meets its contract: what is surely good is good. Assumes nothing.
use mathlib.Core.Path.{sym, ◌∙◌}
use lib.ListN.{take, drop}
use Rattle.words.specs.Words.{words}
use Rattle.opens.proofs.OpensLaws.{sure-good}
use Rattle.opens.proofs.opens_good.Goals as goal

pub returns-then-opens_sure : goal.returns-then-opens_sure
returns-then-opens_sure c =
    let a = c.args in
    sure-good a.all.bits a.d.bits (take a.c (drop a.at (words a.a.now))) (sym c.opens_sure.ensures ∙ c.if-opens_sure.true)
