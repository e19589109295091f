use Rattle.words.specs.Words.{words}
use Rattle.opens.proofs.PassLaws.{PassedFrom}
use Rattle.opens.proofs.opens_few.Given as goal

abbrev pub invariant-loop-j : goal.invariant-loop-j
invariant-loop-j l = PassedFrom (words l.a) l.at l.c l.initial.next l.j l.later.bits l.next
