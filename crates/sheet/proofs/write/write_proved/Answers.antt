-- `sheet::write::write_proved` meets its contract: the sets not yet passed finish the text. Assumes nothing.
use mathlib.Core.Path.{sym, ◌∙◌}
use Prim.Native.Nat.{◌+◌}
use native.Mathlib.Omega.{arith}
use lib.ListN.{get_or}
use Rattle.roles.specs.Sets.{roles_of}
use Rattle.text.proofs.PageLaws.{finishes-next, finishes-room, finishes_end}
use Rattle.sheet.specs.Text.{shown_by, names_text}
use Rattle.sheet.proofs.Parts.{proved_from, proved-one, proved-other, proved-end}
use Rattle.sheet.proofs.write.write_proved.Goals.{then-is_alone, else-is_alone}
use Rattle.sheet.proofs.write.write_proved.Goals as goal

pub write_set-requires : goal.write_set-requires
write_set-requires c =
    let l = c.loop-bits in
    let a = c.args in
    let f = shown_by a.names in
    finishes-room (names_text f (roles_of (get_or a.sets.now l.bits-index 0))) (proved_from f a.sets.now (l.bits-index + 1)) l.invariant
    (proved-one f a.sets.now l.bits-index (omega arith) (sym c.is_alone.ensures ∙ c.if-is_alone.true))

pub loop-bits-preserved : goal.loop-bits-preserved
loop-bits-preserved c =
    let l = c.loop-bits in
    let a = c.args in
    let f = shown_by a.names in
    elim c.if-is_alone.branch [
      | then-is_alone w ↦
          rw w.page-is
          (finishes-next (names_text f (roles_of (get_or a.sets.now l.bits-index 0))) (proved_from f a.sets.now (l.bits-index + 1)) l.invariant
          (proved-one f a.sets.now l.bits-index (omega arith) (sym c.is_alone.ensures ∙ w.if-is_alone.true)) w.write_set.ensures)
      | else-is_alone w ↦
          rw w.page-is (rw (proved-other f a.sets.now l.bits-index (omega arith) (sym c.is_alone.ensures ∙ w.if-is_alone.false)) at l.invariant)
    ]

pub returns : goal.returns
returns c =
    let l = c.loop-bits in
    let a = c.args in
    finishes_end (rw (proved-end (shown_by a.names) a.sets.now l.bits-index (omega arith)) at l.invariant)
