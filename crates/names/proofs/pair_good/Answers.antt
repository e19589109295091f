-- `names::pair_good` meets its contract. Assumes nothing.
use borrow.Author.Rules.{rules}
use Rattle.names.proofs.TableLaws.{pair-none, pair-long, pair_fits}
use Rattle.names.proofs.pair_good.Goals as goal

pub returns-then-n-eq0 : goal.returns-then-n-eq0
returns-then-n-eq0 c =
    let a = c.args in
    pair-none a.t.now a.r c.half-start.result c.half-n.result c.half-start.ensures.0 c.half-n.ensures.0 c.if-n-eq0.true

pub returns-then-n-gt-MOST_NAME : goal.returns-then-n-gt-MOST_NAME
returns-then-n-gt-MOST_NAME c =
    let a = c.args in
    pair-long a.t.now a.r c.half-start.result c.half-n.result c.half-start.ensures.0 c.half-n.ensures.0 c.if-n-eq0.false c.if-n-gt-MOST_NAME.true

pub returns : goal.returns
returns c =
    let a = c.args in
    pair_fits a.t.now a.r c.half-start.result c.half-n.result c.half-start.ensures.0 c.half-n.ensures.0 c.if-n-eq0.false (search rules)
