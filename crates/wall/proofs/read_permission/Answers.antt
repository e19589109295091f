-- `wall::read_permission` meets its contract. Assumes nothing.
use mathlib.Core.Path.{◌∙◌}
use Rattle.wall.proofs.Arguments.{permission-read}
use Rattle.wall.proofs.read_permission.Goals as goal

pub returns : goal.returns
returns c = c.whole.ensures ∙ permission-read c.args.text.now _ c.read_number.ensures
