-- `Roles::next` meets its contract: the lowest role comes first, then those of the set without it. Assumes nothing.
use Rattle.std.proofs.Common.{rules, ◌≡◌, [], length, sym, ap, ◌∙◌, arith}
use Rattle.roles.specs.Sets.{roles_of}
use Rattle.roles.proofs.RoleLists.{roles-lowest, roles-none, none-named}
use Rattle.roles.proofs.RolesIterator.next.Goals as goal

pub returns-then-self-eq0-clause-steps : goal.returns-then-self-eq0-clause-steps
returns-then-self-eq0-clause-steps c =
    let none : c.args.self.now ≡ [] = sym c.self.view_is ∙ ap roles_of c.if-self-eq0.true ∙ roles-none in (none, none)

pub returns-in_err-role-clause-steps : goal.returns-in_err-role-clause-steps
returns-in_err-role-clause-steps c = absurd (c.if-self-eq0.false (none-named (search rules) (sym (c.in_err-role.was) ∙ c.outside.ensures)))

pub returns-clause-steps : goal.returns-clause-steps
returns-clause-steps c =
    sym c.self.view_is ∙ roles-lowest (search rules) (sym (c.in_ok-role.was) ∙ c.outside.ensures) c.single.ensures c.without-self-inside.ensures

pub returns-clause-goes : goal.returns-clause-goes
returns-clause-goes c =
    let e = ap length (sym c.self.view_is ∙ roles-lowest (search rules) (sym (c.in_ok-role.was) ∙ c.outside.ensures) c.single.ensures c.without-self-inside.ensures) in
    record { on = λ f. (tt, tt, omega arith); keeps = tt; rests = λ f. tt }
