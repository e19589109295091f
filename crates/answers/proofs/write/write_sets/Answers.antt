-- `answers::write::write_sets` meets its contract: the sets not yet passed finish the text. Assumes nothing.
use mathlib.Core.List.{[], ◌∷◌, ◌++◌}
use Prim.Native.Nat.{◌+◌}
use native.Mathlib.Omega.{arith}
use lib.ListN.{drop, get_or}
use Rattle.text.specs.Ascii.{space}
use Rattle.text.specs.Set.{set_text}
use Rattle.text.proofs.PageLaws.{finishes-next, finishes-room, finishes_end}
use Rattle.answers.specs.Texts.{sets_text}
use Rattle.answers.proofs.Texts.{sets-next, sets_end}
use Rattle.answers.proofs.write.write_sets.Goals as goal

pub field-requires : goal.field-requires
field-requires c =
    let l = c.loop-bits in
    let sets = c.args.sets.now in
    finishes-room ((space ∷ []) ++ set_text (get_or sets l.bits-index 0)) (sets_text (drop (l.bits-index + 1) sets)) l.invariant (sets-next sets l.bits-index (omega arith))

pub loop-bits-preserved : goal.loop-bits-preserved
loop-bits-preserved c =
    let l = c.loop-bits in
    let sets = c.args.sets.now in
    finishes-next ((space ∷ []) ++ set_text (get_or sets l.bits-index 0)) (sets_text (drop (l.bits-index + 1) sets)) l.invariant (sets-next sets l.bits-index (omega arith)) c.field.ensures

pub returns : goal.returns
returns c =
    let l = c.loop-bits in
    finishes_end (rw (sets_end c.args.sets.now l.bits-index (omega arith)) at l.invariant)
