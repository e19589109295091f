-- `print::write::write_denied` meets its contract. Assumes nothing.
use Rattle.std.proofs.Common.{◌≡◌, false, ℕ, sym, ◌∙◌, append-nil, eqb}
use Rattle.text.proofs.PageLaws.{adds_nothing}
use Rattle.requests.specs.Request.{letter_d}
use Rattle.print.specs.Printed.{denials, tells, lines_text}
use Rattle.print.specs.Lines.{reply_line}
use Rattle.print.proofs.LineLaws.{none-denied, some-denied}
use Rattle.print.proofs.write.write_denied.Goals as goal

one_line : (p d g : ℕ) → eqb d 0 ≡ false → lines_text (tells p (denials d) g) ≡ reply_line letter_d p d g
one_line p d g e = some-denied p d g e ∙ append-nil (reply_line letter_d p d g)

pub write_reply-requires : goal.write_reply-requires
write_reply-requires c = let a = c.args in rw (one_line a.p a.d.bits a.g (sym c.is_empty.ensures ∙ c.if-not-is_empty.true)) at c.requires

pub returns-then-not-is_empty : goal.returns-then-not-is_empty
returns-then-not-is_empty c = let a = c.args in rw (one_line a.p a.d.bits a.g (sym c.is_empty.ensures ∙ c.if-not-is_empty.true)) c.write_reply.ensures

pub returns-else-not-is_empty : goal.returns-else-not-is_empty
returns-else-not-is_empty c = let a = c.args in rw (none-denied a.p a.d.bits a.g (sym c.is_empty.ensures ∙ c.if-not-is_empty.false)) (adds_nothing a.page.now)
