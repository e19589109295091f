-- `requests::open_of` meets its contract. Assumes nothing.
use mathlib.Core.Path.{◌∙◌}
use native.Mathlib.Omega.{arith}
use Rattle.requests.specs.Fields.{last_count}
use Rattle.requests.specs.Request.{in_state, by_letter}
use Rattle.requests.specs.declared.Request.TheVariants.{Open, Unreadable}
use Rattle.requests.proofs.Made.{of_number_lem, of-last, last-small}
use Rattle.requests.proofs.open_of.Goals as goal

pub returns-in_default : goal.returns-in_default
unfolding by_letter
returns-in_default c = of_number_lem Unreadable c.args.line.now (λ n. in_state (Open n)) last_count 1 c.in_default.ensures

pub returns-in_default-last_number : goal.returns-in_default-last_number
unfolding by_letter
returns-in_default-last_number c =
    of-last Unreadable (Open c.in-Some.count) _ _ c.in_default-last_number.ensures
    ∙ of_number_lem Unreadable c.args.line.now (λ n. in_state (Open n)) last_count 1 c.in-Some.ensures

pub returns : goal.returns
unfolding by_letter
returns c =
    of-last Unreadable (Open c.in-Some.count) _ _ c.in-Some-last_number.ensures
    ∙ of_number_lem Unreadable c.args.line.now (λ n. in_state (Open n)) last_count 1 c.in-Some.ensures

pub overflow_cast-result : goal.overflow_cast-result
overflow_cast-result c = omega (arith, last-small _ _ _ c.in-Some-last_number.ensures)
