use mathlib.Core.Bool.{false}
use Rattle.meaning.specs.Lists.{keep}
use Rattle.text.proofs.PageLaws.{Finishes}
use Rattle.sheet.specs.Text.{larger, shown_by, parted_text}
use Rattle.sheet.proofs.Parts.{open_from}
use Rattle.sheet.proofs.write.write_open.Given as goal

-- the text of the sets not yet passed finishes the whole
abbrev pub invariant-loop-bits : goal.invariant-loop-bits
invariant-loop-bits l = Finishes l.initial.page (parted_text (shown_by l.names) false (keep larger l.sets)) l.page (open_from (shown_by l.names) l.later l.sets l.bits-index)
