-- `requests::decide_of` meets its contract. Assumes nothing.
use mathlib.Core.Path.{◌∙◌}
use Rattle.requests.specs.Fields.{ended}
use Rattle.requests.specs.Request.{by_letter}
use Rattle.requests.specs.declared.Request.TheVariants.{Decide, Unreadable}
use Rattle.requests.proofs.FieldLaws.{ended-there, ended-later}
use Rattle.requests.proofs.Made.{of-permission-set}
use Rattle.requests.proofs.decide_of.Goals as goal

pub returns-in_default : goal.returns-in_default
unfolding by_letter
returns-in_default c =
    let line = c.args.line.now in
    of-permission-set Unreadable line (λ p s. ended Unreadable (Decide p s)) 1 c.in_default.ensures

-- bytes come behind the set
pub returns-then-next-line : goal.returns-then-next-line
unfolding by_letter
returns-then-next-line c =
    let line = c.args.line.now in
    ended-later Unreadable (Decide _ _) line c.in-Some.next c.if-next-line.true
    ∙ of-permission-set Unreadable line (λ p s. ended Unreadable (Decide p s)) 1 c.in-Some.ensures

-- the line ends behind the set
pub returns : goal.returns
unfolding by_letter
returns c =
    let line = c.args.line.now in
    ended-there Unreadable _ line c.in-Some.next c.if-next-line.false
    ∙ of-permission-set Unreadable line (λ p s. ended Unreadable (Decide p s)) 1 c.in-Some.ensures
