-- `cache::put_over` meets its contract. Assumes nothing.
use borrow.Author.Rules.{rules}
use mathlib.Core.Path.{◌≡◌, sym, ap, ◌∙◌}
use lib.ListN.{length}
use Rattle.area.specs.Layout.{area_bytes}
use Rattle.area.specs.State.{words_of}
use Rattle.rows.specs.Stored.{row_of}
use Rattle.cache.proofs.Places.{bytes-are}
use Rattle.cache.proofs.Writes.{row_inside, state-over, state-out}
use Rattle.cache.proofs.put_over.Goals as goal

pub remove_at-requires : goal.remove_at-requires
remove_at-requires c =
    (c.requires.0, row_inside c.args.a.now c.requires.0 c.args.p c.args.i c.requires.1)

pub put_at-requires : goal.put_at-requires
put_at-requires c =
    (c.requires.0, row_inside c.args.a.now c.requires.0 c.args.p c.args.i c.requires.1, c.requires.2)

pub returns-then-is_blank : goal.returns-then-is_blank
returns-then-is_blank c =
    let end = c.remove_at.new.a in
    let len : length end ≡ area_bytes = search rules in
    let b = sym c.is_blank.ensures ∙ c.if-is_blank.true in
    bytes-are end _ (λ p. (c.slice_known-then-is_blank-1.given p).fits) len
    (c.remove_at.ensures ∙ ap words_of (state-out c.args.a.now c.requires.0 c.args.p c.args.i c.requires.1 (row_of c.args.w) b))

pub returns-else-is_blank : goal.returns-else-is_blank
returns-else-is_blank c =
    let end = c.put_at.new.a in
    let len : length end ≡ area_bytes = search rules in
    let b = sym c.is_blank.ensures ∙ c.if-is_blank.false in
    bytes-are end _ (λ p. (c.slice_known-else-is_blank-1.given p).fits) len
    (c.put_at.ensures ∙ ap words_of (state-over c.args.a.now c.requires.0 c.args.p c.args.i c.requires.1 (row_of c.args.w) b))
