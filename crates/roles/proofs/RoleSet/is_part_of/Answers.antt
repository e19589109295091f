-- `RoleSet::is_part_of` meets its contract. Assumes nothing.
use mathlib.Core.Path.{ap, ◌∙◌}
use Prim.Native.Nat.{ℕ}
use lib.Dec.{eqb}
use Rattle.roles.specs.Sets.{part_of}
use Rattle.roles.proofs.RoleSet.is_part_of.Goals as goal

pub returns : goal.returns
unfolding part_of
returns c = c.is_empty.ensures ∙ ap (λ (x : ℕ). eqb x 0) c.without.ensures
