use mathlib.Core.Path.{◌≡◌}
use mathlib.Core.Bool.{true}
use lib.ListN.{take, drop}
use Rattle.words.specs.Words.{words}
use Rattle.opens.specs.Parts.{stand_apart}
use Rattle.opens.proofs.stand_apart.Given as goal

abbrev pub invariant-loop-i : goal.invariant-loop-i
invariant-loop-i l = stand_apart (take l.i (drop l.at (words l.a))) ≡ true
