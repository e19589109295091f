use Rattle.meaning.specs.Lists.{keep}
use Rattle.text.proofs.PageLaws.{Finishes}
use Rattle.sheet.specs.Text.{alone, roles_of_all, shown_by, names_text}
use Rattle.sheet.proofs.Parts.{proved_from}
use Rattle.sheet.proofs.write.write_proved.Given as goal

-- the text of the sets not yet passed finishes the whole
abbrev pub invariant-loop-bits : goal.invariant-loop-bits
invariant-loop-bits l = Finishes l.initial.page (names_text (shown_by l.names) (roles_of_all (keep alone l.sets))) l.page (proved_from (shown_by l.names) l.sets l.bits-index)
