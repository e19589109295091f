-- `lines::show_rest` meets its contract. Assumes nothing.
use Rattle.lines.proofs.Rows.{no-rest}
use Rattle.lines.proofs.show_rest.Goals as goal

pub returns-in_default : goal.returns-in_default
returns-in_default c = let a = c.args in rw c.before-in_default.ensures (no-rest a.run a.area.now a.out.now c.in_default.is)
