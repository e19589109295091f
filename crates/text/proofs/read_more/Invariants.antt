use mathlib.Core.Path.{◌≡◌}
use Prim.Native.Nat.{◌^◌, ◌≤◌, ◌<◌}
use lib.ListN.{drop}
use Rattle.text.specs.Number.{read_more}
use Rattle.text.proofs.read_more.Given as goal

abbrev pub invariant-loop-i : goal.invariant-loop-i
invariant-loop-i l = (l.value ≤ l.limit) × (l.limit < 2 ^ 32) × (read_more l.limit l.value (drop l.i (drop l.at l.line)) ≡ read_more l.limit 0 (drop l.at l.line))
