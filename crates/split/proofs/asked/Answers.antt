-- `split::asked` meets its contract. Assumes nothing.
use mathlib.Core.Path.{sym, ap, ◌∙◌}
use Rattle.split.specs.Split.{Held, held_all, said}
use Rattle.split.proofs.SplitLaws.{none_only}
use Rattle.split.proofs.asked.Goals as goal

pub returns-then-is_empty : goal.returns-then-is_empty
returns-then-is_empty c =
    let a = c.args in
    c.said_whole.ensures
    ∙ ap (λ (h : Held). said (held_all h a.rest.now)) (sym (none_only _ (sym c.is_empty.ensures ∙ c.if-is_empty.true)))
