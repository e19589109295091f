use mathlib.Core.Path.{◌≡◌}
use Prim.Native.Nat.{ℕ, ◌+◌, ◌*◌, ◌%◌}
use lib.ListN.{take, drop}
use Rattle.words.specs.Words.{words}
use Rattle.opens.specs.Parts.{stand_apart}
use Rattle.opens.proofs.PassLaws.{PassedFrom}
use Rattle.opens.proofs.opens_many.Given as goal

-- so many sets are left where so many pairs are
abbrev pub left : ℕ → ℕ → ℕ
left c pairs = c % 2 + 2 * pairs

abbrev pub invariant-loop-pair : goal.invariant-loop-pair
invariant-loop-pair l =
    PassedFrom (words l.a) l.at l.c l.initial.next (left l.c l.pair) l.later.bits l.next
    × (stand_apart (take (left l.c l.pair) (drop l.at (words l.a))) ≡ stand_apart (take l.c (drop l.at (words l.a))))
