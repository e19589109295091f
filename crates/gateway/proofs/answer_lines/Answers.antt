-- `gateway::answer_lines` meets its contract. Assumes nothing.
use Rattle.gateway.proofs.Zeros.{zeros-answered}
use Rattle.gateway.proofs.answer_lines.Goals as goal

pub returns : goal.returns
returns g c = zeros-answered c.requires.0 c.answer_input.ensures
