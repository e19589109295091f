use mathlib.Core.Path.{◌≡◌}
use mathlib.Core.Bool.{true}
use Prim.Native.Nat.{◌≤◌}
use Rattle.words.specs.Words.{words}
use Rattle.area.specs.Layout.{permission_before, each_below}
use Rattle.area.specs.Parts.{good_but_wide}
use Rattle.area.proofs.check.used_rows_good.Given as goal

abbrev pub invariant-loop-i : goal.invariant-loop-i
invariant-loop-i l = (l.i ≤ l.used) × (true ≡ each_below l.i (good_but_wide (words l.a))) × (l.last ≡ permission_before (words l.a) l.i)
