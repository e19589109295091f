-- `lines::read_line` meets its contract. Assumes nothing.
use Rattle.std.proofs.Common.{refl}
use Rattle.lines.proofs.Places.{end-inside, line_kept, line-answered}
use Rattle.lines.proofs.read_line.Goals as goal

pub returns-then-end-piece : goal.returns-then-end-piece
returns-then-end-piece c =
    line_kept c.args.p c.args.area.now c.args.piece.now c.args.out.now _ c.requires c.line_end-end.ensures c.then.result c.if-end-piece.true c.then.ensures

pub slice_bounds-part-end : goal.slice_bounds-part-end
slice_bounds-part-end c = end-inside c.args.p c.args.area.now c.args.piece.now c.args.out.now _ c.requires c.line_end-end.ensures

pub returns : goal.returns
returns c =
    line-answered c.args.p c.args.area.now c.args.piece.now c.args.out.now _ c.requires c.line_end-end.ensures c.if-end-piece.false _ _ _ _ _ _ c.asked.ensures c.answer-shown.ensures c.new.ensures refl
