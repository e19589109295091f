-- `answers::write::write_decided` meets its contract: its parts stand one behind the other. Assumes nothing.
use Rattle.text.proofs.PageLaws.{adds_then}
use Rattle.answers.specs.Texts.{answer_text}
use Rattle.answers.proofs.write.write_decided.Goals as goal

pub returns : goal.returns
unfolding answer_text
returns c = adds_then (adds_then (adds_then (adds_then c.write.ensures c.push.ensures) c.write-2.ensures) c.write_role.ensures) c.push-2.ensures
