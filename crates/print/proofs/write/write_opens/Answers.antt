-- `print::write::write_opens` meets its contract: the lines of the sets not yet passed finish the text. Assumes nothing.
use Prim.Native.Nat.{◌+◌}
use native.Mathlib.Omega.{arith}
use lib.ListN.{drop, get_or}
use Rattle.text.proofs.PageLaws.{finishes-room, finishes-next, finishes_end}
use Rattle.requests.specs.Request.{letter_a}
use Rattle.print.specs.Printed.{allows, tells, lines_text}
use Rattle.print.specs.Lines.{reply_line}
use Rattle.print.proofs.LineLaws.{opens-next, opens-end}
use Rattle.print.proofs.write.write_opens.Goals as goal

pub write_reply-requires : goal.write_reply-requires
write_reply-requires c =
    let l = c.loop-bits in
    let a = c.args in
    let sets = a.sets.now in
    finishes-room (reply_line letter_a a.p (get_or sets l.bits-index 0) a.g) (lines_text (tells a.p (allows (drop (l.bits-index + 1) sets)) a.g)) l.invariant (opens-next a.p sets a.g l.bits-index (omega arith))

pub loop-bits-preserved : goal.loop-bits-preserved
loop-bits-preserved c =
    let l = c.loop-bits in
    let a = c.args in
    let sets = a.sets.now in
    finishes-next (reply_line letter_a a.p (get_or sets l.bits-index 0) a.g) (lines_text (tells a.p (allows (drop (l.bits-index + 1) sets)) a.g)) l.invariant (opens-next a.p sets a.g l.bits-index (omega arith)) c.write_reply.ensures

pub returns : goal.returns
returns c =
    let l = c.loop-bits in
    let a = c.args in
    finishes_end (rw (opens-end a.p a.sets.now a.g l.bits-index (omega arith)) at l.invariant)
