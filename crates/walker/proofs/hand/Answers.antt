-- `walker::hand` meets its contract. Assumes nothing.
use mathlib.Core.Path.{sym}
use native.Mathlib.Omega.{arith}
use Prim.Native.Nat.{◌<◌}
use lib.ListN.{length}
use Rattle.table.specs.Table.{Sound, rows_in}
use Rattle.walker.proofs.WalkLaws.{walk-row, walk_end, walk-past, permission-valid}
use Rattle.walker.proofs.hand.Goals.{Then-next-rows_used, else-next-lt-MOST_ROWS-via-then-next-lt-MOST_ROWS+else-next-rows_used, else-next-lt-MOST_ROWS-via-else-next-lt-MOST_ROWS}
use Rattle.walker.proofs.hand.Goals as goal

-- there is a row of that number
there : (c : Then-next-rows_used) → Sound c.args.a.now × (c.args.next < length (rows_in c.args.a.now))
there c = (c.requires c.if-next-lt-MOST_ROWS.true, rw c.rows_used.ensures at c.if-next-rows_used.true)

pub overflow_cast-result : goal.overflow_cast-result
overflow_cast-result c =
    let k = there (goal.at.overflow_cast-result c).Then-next-rows_used in
    let v = permission-valid c.args.a.now k.0 c.args.next k.1 in
    record { fits = omega (arith, c.permission_at.ensures) }

pub returns-then-next-rows_used : goal.returns-then-next-rows_used
returns-then-next-rows_used c =
    let k = there (goal.at.returns-then-next-rows_used c).Then-next-rows_used in
    let handed = (walk-row c.args.a.now c.args.next k.0.good k.1).0 in
    cc

pub returns : goal.returns
returns c =
    let l = c.args.a.now in
    let i = c.args.next in
    sym (elim c.else-next-lt-MOST_ROWS.branch [
      | else-next-lt-MOST_ROWS-via-then-next-lt-MOST_ROWS+else-next-rows_used w ↦ (walk_end l i (c.requires w.if-next-lt-MOST_ROWS.true).good (rw w.rows_used.ensures at w.if-next-rows_used.false)).0
      | else-next-lt-MOST_ROWS-via-else-next-lt-MOST_ROWS w ↦ (walk-past l i w.if-next-lt-MOST_ROWS.false).0
    ])
