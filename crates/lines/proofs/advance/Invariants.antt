use Rattle.std.proofs.Common.{◌≡◌, ◌-◌, length}
use Rattle.lines.proofs.Steps.{Midway}
use Rattle.lines.proofs.advance.Given as goal

abbrev pub invariant-loop-area : goal.invariant-loop-area
invariant-loop-area l = (l.room ≡ length l.initial.out) × (length l.area ≡ length l.initial.area) × Midway l.initial.area l.piece l.initial.out l.initial.p l.area l.out l.p

abbrev pub decreases-loop-area : goal.decreases-loop-area
decreases-loop-area l = length l.piece - l.p.read
