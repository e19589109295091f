use Rattle.stream.proofs.Going.{Going}
use Rattle.stream.proofs.answer_input.Given as goal

abbrev pub invariant-loop-turns : goal.invariant-loop-turns
invariant-loop-turns g l = Going l.fn.area l.turns l.flow l.area l.piece
