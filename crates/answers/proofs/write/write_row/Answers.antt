-- `answers::write::write_row` meets its contract: its parts stand one behind the other. Assumes nothing.
use Rattle.text.proofs.PageLaws.{adds_then}
use Rattle.answers.specs.Texts.{sets_text, row_text}
use Rattle.answers.proofs.write.write_row.Goals as goal

pub returns : goal.returns
unfolding row_text sets_text
returns c = adds_then (adds_then (adds_then c.push.ensures c.field.ensures) (adds_then c.field-2.ensures (rw c.held.ensures at c.write_sets.ensures))) c.push-2.ensures
