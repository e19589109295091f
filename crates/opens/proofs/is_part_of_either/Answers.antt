-- `opens::is_part_of_either` meets its contract: what is no part of the union is part of neither. Assumes nothing.
use mathlib.Core.Path.{sym, ap, ◌∙◌}
use Rattle.roles.specs.Sets.{part_of}
use Rattle.opens.proofs.TwoLaws.{neither}
use Rattle.opens.proofs.is_part_of_either.Goals as goal

pub returns-then-not-is_part_of : goal.returns-then-not-is_part_of
returns-then-not-is_part_of c =
    sym (neither c.args.s.bits c.args.t.bits c.args.o.bits
    (ap (part_of c.args.o.bits) (sym c.requires) ∙ sym c.is_part_of.ensures ∙ c.if-not-is_part_of.true))
