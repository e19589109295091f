-- `cache::forget_row` meets its contract. Assumes nothing.
use borrow.Author.Rules.{rules}
use mathlib.Core.Path.{◌≡◌, refl, sym, ap, ◌∙◌}
use lib.ListN.{length}
use Rattle.meaning.specs.Rows.{blank}
use Rattle.area.specs.Layout.{area_bytes}
use Rattle.area.specs.State.{words_of}
use Rattle.cache.proofs.Places.{bytes-are}
use Rattle.cache.proofs.Writes.{row_inside, state-out, area-kept}
use Rattle.cache.proofs.forget_row.Goals as goal

pub remove_at-requires : goal.remove_at-requires
remove_at-requires c =
    (c.requires, row_inside c.args.a.now c.requires c.args.p c.in-Ok.i (sym c.find.ensures ∙ c.in-Ok.is))

pub returns-in-Ok : goal.returns-in-Ok
returns-in-Ok c =
    let end = c.remove_at.new.a in
    let len : length end ≡ area_bytes = search rules in
    bytes-are end _ (λ p. (c.slice_known-in-Ok-1.given p).fits) len
    (c.remove_at.ensures ∙ ap words_of (state-out c.args.a.now c.requires c.args.p c.in-Ok.i (sym c.find.ensures ∙ c.in-Ok.is) blank refl))

pub returns-in-Err : goal.returns-in-Err
returns-in-Err c =
    sym (area-kept c.args.a.now c.requires c.args.p _ (sym c.find.ensures ∙ c.in-Err.is) blank refl (λ p. (c.slice_known-1.given p).fits))
