-- `requests::forget_of` meets its contract. Assumes nothing.
use native.Mathlib.Omega.{arith}
use Rattle.requests.specs.Request.{by_letter}
use Rattle.requests.specs.declared.Request.TheVariants.{Forget, Unreadable}
use Rattle.requests.proofs.Made.{of-last, last-small}
use Rattle.requests.proofs.forget_of.Goals as goal

pub returns-in_default : goal.returns-in_default
unfolding by_letter
returns-in_default c = of-last Unreadable Forget _ _ c.in_default.ensures

pub returns : goal.returns
unfolding by_letter
returns c = of-last Unreadable Forget _ _ c.in-Some.ensures

pub overflow_cast-result : goal.overflow_cast-result
overflow_cast-result c = omega (arith, last-small _ _ _ c.in-Some.ensures)
