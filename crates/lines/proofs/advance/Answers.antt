-- `lines::advance` meets its contract: the rows left from before come first, and then line after line. Assumes nothing.
use Rattle.std.proofs.Common.{◌≡◌, ℕ, length, sym, refl, ap, ◌∙◌, rules}
use Rattle.text.proofs.WriteLaws.{wrote-length}
use Rattle.lines.proofs.Steps.{goes_on_lem, midway_start, midway-next, midway_end, no_room}
use Rattle.lines.proofs.advance.Goals as goal

pub returns-then-room-lt-MOST_TEXT : goal.returns-then-room-lt-MOST_TEXT
returns-then-room-lt-MOST_TEXT c = let a = c.args in rw c.before-then-room-lt-MOST_TEXT.ensures (no_room a.run a.area.now a.piece.now a.out.now (search rules))

pub loop-area-init : goal.loop-area-init
loop-area-init c =
    let a = c.args in
    let f = c.show_rest-p in
    (sym (wrote-length f.ensures.rows.wrote), refl, midway_start a.run a.area.now a.piece.now a.out.now f.result _ f.ensures)

pub loop-area-preserved : goal.loop-area-preserved
loop-area-preserved c =
    let at = c.loop-area in
    let k = c.read_line-p in
    let same : length k.new.area ≡ length at.area = search rules in
    (at.invariant.0, same ∙ at.invariant.1, midway-next _ _ _ _ at.area at.out at.p at.invariant.2 _ _ _ k.ensures)

pub returns : goal.returns
returns c =
    let a = c.args in
    let f = c.show_rest-p in
    let at = c.loop-area in
    midway_end a.run a.area.now a.piece.now a.out.now f.result _ f.ensures (search rules) at.area at.out at.p at.invariant.2
    (ap (λ (n : ℕ). goes_on_lem n a.piece.now at.p) (sym at.invariant.0) ∙ sym c.goes_on.ensures ∙ c.loop-area-test.false)
