-- `print::write::write_reply` meets its contract: the letter, the fields one behind the other, LF. Assumes nothing.
use Rattle.text.proofs.PageLaws.{adds_then}
use Rattle.print.proofs.write.write_reply.Goals as goal

pub returns : goal.returns
returns c = adds_then (adds_then c.push.ensures (adds_then c.field.ensures (adds_then c.field-2.ensures c.field-3.ensures))) c.push-2.ensures
