use Prim.Native.Nat.{◌-◌}
use Rattle.roles.specs.Sets.{most_roles}
use Rattle.text.proofs.Walks.{RolesLeft}
use Rattle.text.proofs.read_roles.Given as goal

abbrev pub invariant-loop-role : goal.invariant-loop-role
invariant-loop-role l = RolesLeft l.line l.at l.set.bits l.low l.i

abbrev pub decreases-loop-role : goal.decreases-loop-role
decreases-loop-role l = most_roles - l.low
