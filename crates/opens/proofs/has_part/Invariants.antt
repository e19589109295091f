use mathlib.Core.Path.{◌≡◌}
use lib.ListN.{take, drop}
use Rattle.words.specs.Words.{words}
use Rattle.meaning.specs.Rows.{has_part}
use Rattle.opens.proofs.has_part.Given as goal

abbrev pub invariant-loop-k : goal.invariant-loop-k
invariant-loop-k l = has_part l.s.bits (drop l.k (take l.i (drop l.at (words l.a)))) ≡ has_part l.s.bits (take l.i (drop l.at (words l.a)))
