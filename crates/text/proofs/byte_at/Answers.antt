-- `text::byte_at` meets its contract. Assumes nothing.
use mathlib.Core.Path.{refl, ◌∙◌}
use Rattle.text.proofs.Walks.{byte-lent}
use Rattle.text.proofs.byte_at.Goals as goal

pub returns : goal.returns
returns c = let a = c.args in c.eq.ensures ∙ byte-lent a.b a.line.now a.at c.get.result _ c.get.ensures.lookup refl
