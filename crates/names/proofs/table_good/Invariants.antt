use mathlib.Core.Path.{◌≡◌}
use mathlib.Core.Bool.{true}
use Prim.Native.Nat.{◌≤◌}
use lib.ListN.{length}
use Rattle.names.specs.Names.{contents_bytes, good_pairs}
use Rattle.names.proofs.table_good.Given as goal

abbrev pub invariant-loop-r : goal.invariant-loop-r
invariant-loop-r l = (contents_bytes ≤ length l.t) × (good_pairs l.r l.t ≡ true)
