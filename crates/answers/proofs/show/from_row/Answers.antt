-- `answers::show::from_row` meets its contract. Assumes nothing.
use mathlib.Core.Path.{subst⁻¹}
use Rattle.walker.specs.Walk.{Walkable}
use Rattle.walker.specs.declared.Walker.{Walker}
use Rattle.walker.proofs.WalkLaws.{go_on_at-walkable}
use Rattle.answers.proofs.show.from_row.Goals as goal

pub walk-requires : goal.walk-requires
walk-requires c = (subst⁻¹ (λ (w : Walker). Walkable w.area.now w.next) c.resume.ensures (go_on_at-walkable c.args.area.now c.args.row), c.requires)
