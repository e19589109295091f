-- `RoleSet::joined` meets its contract. Assumes nothing.
use mathlib.Core.Path.{refl}
use Rattle.roles.specs.Sets.{joined}
use Rattle.roles.proofs.RoleSet.joined.Goals as goal

pub returns : goal.returns
unfolding joined
returns c = refl
