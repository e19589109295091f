-- `print::write::write_row` meets its contract: the line of the denied set, then those of the open sets. Assumes nothing.
use Rattle.std.proofs.Common.{List, ℕ, ◌++◌}
use Rattle.rows.specs.Stored.{row_of, held}
use Rattle.text.specs.Page.{Room}
use Rattle.text.proofs.WriteLaws.{room-first}
use Rattle.text.proofs.PageLaws.{adds_then, room-next}
use Rattle.print.specs.Printed.{denials, allows, tells, lines_text}
use Rattle.print.proofs.LineLaws.{row-lines}
use Rattle.print.proofs.write.write_row.Goals.{Start}
use Rattle.print.proofs.write.write_row.Goals as goal

module _ (s : Start) where
  abbrev denied-lines : List ℕ
  denied-lines = lines_text (tells s.args.p (denials s.args.w.denied.bits) s.args.g)

  abbrev open-lines : List ℕ
  open-lines = lines_text (tells s.args.p (allows (held s.args.w.opens)) s.args.g)

  room : Room s.args.page.now (denied-lines ++ open-lines)
  room = rw (row-lines s.args.g s.args.p (row_of s.args.w)) at s.requires.1

pub write_denied-requires : goal.write_denied-requires
write_denied-requires c = let s = (goal.at.write_denied-requires c).Start in room-first c.args.page.now.at (denied-lines s) (open-lines s) (room s)

pub write_opens-requires : goal.write_opens-requires
write_opens-requires c = let s = (goal.at.write_opens-requires c).Start in rw c.held.ensures (room-next c.write_denied.ensures (open-lines s) (room s))

pub returns : goal.returns
returns c =
    rw (row-lines c.args.g c.args.p (row_of c.args.w)) (adds_then c.write_denied.ensures (rw c.held.ensures at c.write_opens.ensures))
