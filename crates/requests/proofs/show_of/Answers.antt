-- `requests::show_of` meets its contract. Assumes nothing.
use Rattle.requests.specs.Request.{by_letter}
use Rattle.requests.specs.declared.Request.TheVariants.{Show, Unreadable}
use Rattle.requests.proofs.FieldLaws.{ended-there, ended-later}
use Rattle.requests.proofs.show_of.Goals as goal

pub returns-then-line-le1 : goal.returns-then-line-le1
unfolding by_letter
returns-then-line-le1 c = ended-there Unreadable Show c.args.line.now 1 c.if-line-le1.true

pub returns-else-line-le1 : goal.returns-else-line-le1
unfolding by_letter
returns-else-line-le1 c = ended-later Unreadable Show c.args.line.now 1 c.if-line-le1.false
