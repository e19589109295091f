use mathlib.Core.Path.{◌≡◌}
use lib.ListN.{take, drop}
use Rattle.words.specs.Words.{words}
use Rattle.meaning.specs.Lists.{any}
use Rattle.opens.proofs.TwoLaws.{part_of_either}
use Rattle.opens.proofs.has_part_of_two.Given as goal

abbrev pub invariant-loop-k : goal.invariant-loop-k
invariant-loop-k l =
    any (part_of_either l.s.bits l.t.bits) (drop l.k (take l.i (drop l.at (words l.a)))) ≡ any (part_of_either l.s.bits l.t.bits) (take l.i (drop l.at (words l.a)))
