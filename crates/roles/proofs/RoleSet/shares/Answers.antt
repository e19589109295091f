-- `RoleSet::shares` meets its contract. Assumes nothing.
use mathlib.Core.Path.{refl}
use Rattle.roles.specs.Sets.{common, shares}
use Rattle.roles.proofs.RoleSet.shares.Goals as goal

pub returns : goal.returns
unfolding common shares
returns c = refl
