use mathlib.Core.Path.{◌≡◌}
use mathlib.Core.List.{List}
use Prim.Native.Nat.{ℕ, ◌+◌, ◌-◌, ◌*◌, ◌≤◌}
use Rattle.words.specs.Words.{words}
use Rattle.area.specs.Layout.{most_rows}
use Rattle.area.specs.Parts.{zero_rows}
use Rattle.area.proofs.check.rest_unused.Given as goal

-- the rows before row i are passed
abbrev pub Passed : List ℕ → ℕ → ℕ → Type 0
Passed ws used i = (i ≤ most_rows) × (zero_rows ws used (most_rows - used) ≡ zero_rows ws i (most_rows - i))

abbrev pub invariant-loop-k : goal.invariant-loop-k
invariant-loop-k l = Passed (words l.a) l.used (l.used + l.k * 8)

abbrev pub invariant-loop-i : goal.invariant-loop-i
invariant-loop-i l = Passed (words l.a) l.used l.i
