-- `requests::field_at` meets its contract. Assumes nothing.
use mathlib.Core.Path.{sym, ◌∙◌}
use native.Mathlib.Omega.{arith}
use Rattle.text.specs.Ascii.{space}
use Rattle.text.proofs.Walks.{byte_inside}
use Rattle.requests.proofs.FieldLaws.{field-there, field-none}
use Rattle.requests.proofs.field_at.Goals as goal

pub overflow_add-result : goal.overflow_add-result
overflow_add-result c = let a = c.args in omega (arith, byte_inside space a.line.now a.at (sym c.byte_at.ensures ∙ c.if-byte_at.true))

pub returns-then-byte_at : goal.returns-then-byte_at
returns-then-byte_at c = let a = c.args in field-there a.line.now a.at (sym c.byte_at.ensures ∙ c.if-byte_at.true)

pub returns-else-byte_at : goal.returns-else-byte_at
returns-else-byte_at c = let a = c.args in field-none a.line.now a.at (sym c.byte_at.ensures ∙ c.if-byte_at.false)
