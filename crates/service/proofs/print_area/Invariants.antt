use Rattle.service.proofs.Printing.{Going}
use Rattle.service.proofs.print_area.Given as goal

abbrev pub invariant-loop-row : goal.invariant-loop-row
invariant-loop-row g l = Going l.area l.row l.bytes
