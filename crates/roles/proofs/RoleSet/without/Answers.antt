-- `RoleSet::without` meets its contract. Assumes nothing.
use mathlib.Core.Path.{refl}
use Rattle.roles.specs.Sets.{common, without}
use Rattle.roles.proofs.RoleSet.without.Goals as goal

pub returns : goal.returns
unfolding common without
returns c = refl
