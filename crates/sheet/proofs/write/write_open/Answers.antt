-- `sheet::write::write_open` meets its contract: the sets not yet passed finish the text. Assumes nothing.
use mathlib.Core.Path.{sym, ◌∙◌}
use mathlib.Core.Bool.{true}
use mathlib.Core.List.{◌++◌}
use Prim.Native.Nat.{◌+◌}
use native.Mathlib.Omega.{arith}
use lib.ListN.{get_or}
use Rattle.roles.specs.Sets.{roles_of}
use Rattle.text.proofs.PageLaws.{finishes-next, finishes-room, finishes_end}
use Rattle.sheet.specs.Text.{shown_by, names_text, parting}
use Rattle.sheet.proofs.Parts.{open_from, open-one, open-other, open-end}
use Rattle.sheet.proofs.write.write_open.Goals.{then-not-is_alone, else-not-is_alone}
use Rattle.sheet.proofs.write.write_open.Goals as goal

pub write_parted-requires : goal.write_parted-requires
write_parted-requires c =
    let l = c.loop-bits in
    let a = c.args in
    let f = shown_by a.names in
    finishes-room (parting l.later ++ names_text f (roles_of (get_or a.sets.now l.bits-index 0))) (open_from f true a.sets.now (l.bits-index + 1)) l.invariant
    (open-one f a.sets.now l.bits-index l.later (omega arith) (sym c.is_alone.ensures ∙ c.if-not-is_alone.true))

pub loop-bits-preserved : goal.loop-bits-preserved
loop-bits-preserved c =
    let l = c.loop-bits in
    let a = c.args in
    let f = shown_by a.names in
    elim c.if-not-is_alone.branch [
      | then-not-is_alone w ↦
          rw (w.page-is, w.later-is)
          (finishes-next (parting l.later ++ names_text f (roles_of (get_or a.sets.now l.bits-index 0))) (open_from f true a.sets.now (l.bits-index + 1)) l.invariant
          (open-one f a.sets.now l.bits-index l.later (omega arith) (sym c.is_alone.ensures ∙ w.if-not-is_alone.true)) w.write_parted.ensures)
      | else-not-is_alone w ↦
          rw (w.page-is, w.later-is) (rw (open-other f a.sets.now l.bits-index l.later (omega arith) (sym c.is_alone.ensures ∙ w.if-not-is_alone.false)) at l.invariant)
    ]

pub returns : goal.returns
returns c =
    let l = c.loop-bits in
    let a = c.args in
    finishes_end (rw (open-end (shown_by a.names) a.sets.now l.bits-index l.later (omega arith)) at l.invariant)
