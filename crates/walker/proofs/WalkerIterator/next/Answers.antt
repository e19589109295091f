-- A `Walker`'s `next` meets its contract. Assumes nothing.
use mathlib.Core.Path.{sym, ◌∙◌}
use native.Mathlib.Omega.{arith}
use Rattle.walker.proofs.WalkLaws.{none-handed, some-handed, goes_on, walked-few}
use Rattle.walker.proofs.WalkerIterator.next.Goals as goal

pub returns-in_err-handed-clause-steps : goal.returns-in_err-handed-clause-steps
returns-in_err-handed-clause-steps c =
    let w = c.args.self.now in
    let none = c.in_err-handed.ensures in
    (c.from_residual.ensures ∙ none, λ j. record { area = w.area; next = sym (none-handed w.area.now w.next (sym none)) j })

pub overflow_add-self : goal.overflow_add-self
overflow_add-self c =
    let w = c.args.self.now in
    let there = some-handed w.area.now w.next c.in_ok-handed.handed (sym c.in_ok-handed.ensures) in
    let few = walked-few w.area.now in
    record { fits = omega arith }

pub returns-clause-steps : goal.returns-clause-steps
returns-clause-steps c =
    let w = c.args.self.now in
    let there = some-handed w.area.now w.next c.in_ok-handed.handed (sym c.in_ok-handed.ensures) in
    (c.in_ok-handed.ensures, λ j. record { area = w.area; next = sym (goes_on w.area.now w.next there) j })

pub returns-clause-goes : goal.returns-clause-goes
returns-clause-goes c =
    let w = c.args.self.now in
    let there = some-handed w.area.now w.next c.in_ok-handed.handed (sym c.in_ok-handed.ensures) in
    record { on = λ f. (λ h. c.requires (omega arith), f, omega arith); keeps = λ h. c.requires (omega arith); rests = λ f. tt }
