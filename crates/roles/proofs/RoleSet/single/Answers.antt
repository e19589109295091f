-- `RoleSet::single` meets its contract. Assumes nothing.
use mathlib.Core.Path.{sym, ◌∙◌}
use Rattle.roles.specs.Sets.{single}
use Rattle.roles.proofs.Laws.{below64-single, below64-no-role}
use Rattle.roles.proofs.Shift.{shl_one}
use Rattle.roles.proofs.RoleSet.single.Goals as goal

pub returns-then-r-ge-MOST_ROLES : goal.returns-then-r-ge-MOST_ROLES
returns-then-r-ge-MOST_ROLES c = sym (below64-no-role c.args.r c.if-r-ge-MOST_ROLES.true)

pub returns : goal.returns
unfolding single
returns c = shl_one c.args.r c.if-r-ge-MOST_ROLES.false ∙ sym (below64-single c.args.r c.if-r-ge-MOST_ROLES.false)
