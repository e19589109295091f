-- `check::rows_good` meets its contract: of no rows each is good. Assumes nothing.
use mathlib.Core.Path.{sym, ap}
use Prim.Native.Nat.{ℕ}
use Rattle.words.specs.Words.{words}
use Rattle.area.specs.Layout.{each_below, good_row_at}
use Rattle.area.proofs.check.rows_good.Goals as goal

pub returns-then-used-eq0 : goal.returns-then-used-eq0
returns-then-used-eq0 c =
    sym (ap (λ (n : ℕ). each_below n (good_row_at (words c.args.a.now))) c.if-used-eq0.true)
