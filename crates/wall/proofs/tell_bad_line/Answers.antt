-- `wall::tell_bad_line` meets its contract. Assumes nothing.
use Rattle.std.proofs.Common.{rules, ap, length, arith}
use Rattle.text.proofs.Theorems.{number64-length}
use Rattle.text.proofs.PageLaws.{on-buffer}
use Rattle.files.proofs.Joins.{at_front}
use Rattle.wall.proofs.tell_bad_line.Goals as goal

pub number-requires : goal.number-requires
number-requires c = omega (arith, ap length c.new-page.ensures.bytes, c.new-page.ensures.start, number64-length c.args.line (omega (arith, c.ranges.line)))

pub slice_bounds-digits-end : goal.slice_bounds-digits-end
slice_bounds-digits-end c =
    (at_front _ _ (omega (arith, number64-length c.args.line (omega (arith, c.ranges.line)))) (on-buffer c.new-page.ensures.bytes c.new-page.ensures.start c.number.ensures (search rules))).0.0

pub slice_bounds-tell-end-2 : goal.slice_bounds-tell-end-2
slice_bounds-tell-end-2 c =
    (at_front _ _ (omega (arith, number64-length c.args.line (omega (arith, c.ranges.line)))) (on-buffer c.new-page.ensures.bytes c.new-page.ensures.start c.number.ensures (search rules))).0.1
