-- `print::write::write_open` meets its contract: the letter, the fields one behind the other, LF. Assumes nothing.
use Rattle.text.proofs.PageLaws.{adds_then}
use Rattle.requests.specs.Request.{request_text}
use Rattle.print.specs.Printed.{line_of}
use Rattle.print.proofs.write.write_open.Goals as goal

pub returns : goal.returns
unfolding line_of request_text
returns c = adds_then (adds_then c.push.ensures (adds_then c.field.ensures c.field-2.ensures)) c.push-2.ensures
