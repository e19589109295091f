use lib.ListN.{drop}
use Rattle.text.proofs.PageLaws.{Finishes}
use Rattle.answers.specs.Texts.{sets_text}
use Rattle.answers.proofs.write.write_sets.Given as goal

-- the sets not yet passed finish the text
abbrev pub invariant-loop-bits : goal.invariant-loop-bits
invariant-loop-bits l = Finishes l.initial.page (sets_text l.sets) l.page (sets_text (drop l.bits-index l.sets))
