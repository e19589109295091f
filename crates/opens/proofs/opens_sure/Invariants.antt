use mathlib.Core.Path.{◌≡◌}
use mathlib.Core.Bool.{true}
use lib.ListN.{take, drop}
use Rattle.words.specs.Words.{words}
use Rattle.opens.specs.Parts.{each_outside}
use Rattle.opens.proofs.PassLaws.{PassedFrom}
use Rattle.opens.proofs.opens_sure.Given as goal

abbrev pub invariant-loop-j : goal.invariant-loop-j
invariant-loop-j l =
    PassedFrom (words l.a) l.at l.c l.initial.next l.j l.later.bits l.next × (each_outside (drop l.j (take l.c (drop l.at (words l.a)))) ≡ true)
