-- `cache::row_for` meets its contract. Assumes nothing.
use mathlib.Core.Path.{sym, ap, ◌∙◌}
use Rattle.meaning.specs.Rows.{Row}
use Rattle.rows.specs.Stored.{stored_row}
use Rattle.cache.proofs.Writes.{row_inside, row-there, row-none}
use Rattle.cache.proofs.row_for.Goals as goal

pub row_at-requires : goal.row_at-requires
row_at-requires c =
    (c.requires, row_inside c.args.a.now c.requires c.args.p c.in-Ok.i (sym c.find.ensures ∙ c.in-Ok.is))

pub returns-in-Ok : goal.returns-in-Ok
returns-in-Ok c =
    c.row_at.ensures
    ∙ ap (λ (w : Row). stored_row w) (row-there c.args.a.now c.requires c.args.p c.in-Ok.i (sym c.find.ensures ∙ c.in-Ok.is))

pub returns-in-Err : goal.returns-in-Err
returns-in-Err c =
    c.blank.ensures
    ∙ sym (ap (λ (w : Row). stored_row w) (row-none c.args.a.now c.requires c.args.p _ (sym c.find.ensures ∙ c.in-Err.is)))
