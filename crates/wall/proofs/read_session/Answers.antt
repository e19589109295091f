-- `wall::read_session` meets its contract. Assumes nothing.
use mathlib.Core.Path.{◌∙◌}
use Rattle.wall.proofs.Arguments.{session-read}
use Rattle.wall.proofs.read_session.Goals as goal

pub returns : goal.returns
returns c = c.whole.ensures ∙ session-read c.args.text.now _ c.read_set.ensures
