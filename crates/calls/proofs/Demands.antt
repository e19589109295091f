-- The demands hold: each theorem with its name. Assumes nothing.
use Rattle.calls.specs.Demands as demands
use Rattle.calls.specs.Readings.{Readings}
use Rattle.calls.proofs.Grounds as grounds
use Rattle.calls.proofs.Forgetting as forgets
use Rattle.calls.proofs.Streams as streams
use Rattle.calls.proofs.Decisions as decisions
use Rattle.calls.proofs.Full as fullness
use Rattle.calls.proofs.Others as other-calls
use Rattle.calls.proofs.Areas as areas
use Rattle.calls.proofs.Readings as read
use Rattle.calls.proofs.Numbers as numbers

pub demand-1 : demands.Demand1
demand-1 = grounds.demand-1

pub forgetting : demands.Forgetting
forgetting = forgets.forgetting

pub moving : demands.Moving
moving = forgets.moving

pub header : demands.Header
header = decisions.header

pub comes-in : demands.ComesIn
comes-in = streams.comes

pub demand-2 : demands.Demand2
demand-2 = decisions.demand-2

pub in-time : demands.InTime
in-time = decisions.in-time

pub as-it-came : demands.AsItCame
as-it-came = decisions.as-it-came

pub whom : demands.Whom
whom = decisions.whom

pub looking : demands.Looking
looking = decisions.looking

pub no_other : demands.NoOther
no_other = decisions.no_other

pub contradicted : demands.Contradicted
contradicted = decisions.contradicted

pub full : demands.Full
full = fullness.full

pub others : demands.Others
others = other-calls.others

pub demand-3 : demands.Demand3
demand-3 = areas.demand-3

pub reordered : demands.Reordered
reordered = areas.reordered

pub one-outcome : demands.OneOutcome
one-outcome = numbers.one-outcome

pub one-decision : demands.OneDecision
one-decision = numbers.one-decision

pub readings : Readings
readings = read.readings
