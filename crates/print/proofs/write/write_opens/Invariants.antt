use lib.ListN.{drop}
use Rattle.text.proofs.PageLaws.{Finishes}
use Rattle.print.specs.Printed.{allows, tells, lines_text}
use Rattle.print.proofs.write.write_opens.Given as goal

-- the lines of the sets not yet passed finish the text
abbrev pub invariant-loop-bits : goal.invariant-loop-bits
invariant-loop-bits l = Finishes l.initial.page (lines_text (tells l.p (allows l.sets) l.g)) l.page (lines_text (tells l.p (allows (drop l.bits-index l.sets)) l.g))
