-- `requests::event_of` meets its contract. Assumes nothing.
use native.Mathlib.Omega.{arith}
use Rattle.requests.specs.Request.{told}
use Rattle.requests.specs.declared.Request.TheVariants.{Unreadable}
use Rattle.requests.proofs.Made.{of-last, last-small, event-made}
use Rattle.requests.proofs.event_of.Goals as goal

pub returns-in_default-last_number : goal.returns-in_default-last_number
returns-in_default-last_number g c =
    event-made _ c.args.line.now c.in-Some.fields _ _ c.in-Some.is c.happening-happening.ensures (of-last Unreadable (told c.in-Some.fields.0 c.happening-happening.result) _ _ c.in_default-last_number.ensures)

pub overflow_cast-result : goal.overflow_cast-result
overflow_cast-result g c = omega (arith, last-small _ _ _ c.in-Some-last_number.ensures)

pub returns : goal.returns
returns g c =
    event-made _ c.args.line.now c.in-Some.fields _ _ c.in-Some.is c.happening-happening.ensures (of-last Unreadable (told c.in-Some.fields.0 c.happening-happening.result) _ _ c.in-Some-last_number.ensures)
