-- `RoleSet::is_below` meets its contract. Assumes nothing.
use mathlib.Core.Path.{ap, ◌∙◌}
use native.Mathlib.Omega.{arith}
use Rattle.roles.specs.Sets.{part_of}
use Rattle.roles.proofs.Laws.{part_of-below64-all}
use Rattle.roles.proofs.RoleSet.is_below.Goals as goal

pub returns : goal.returns
returns c = c.is_part_of.ensures ∙ ap (part_of c.args.self.bits) c.all_below.ensures ∙ part_of-below64-all c.args.n c.args.self.bits (omega arith)
