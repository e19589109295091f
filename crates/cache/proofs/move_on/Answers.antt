-- `cache::move_on` meets its contract. Assumes nothing.
use borrow.Author.Rules.{rules}
use mathlib.Core.Path.{◌≡◌, sym, ◌∙◌}
use lib.ListN.{length}
use Rattle.area.specs.Layout.{area_bytes}
use Rattle.cache.proofs.Places.{bytes-are}
use Rattle.cache.proofs.Moving.{reply-found}
use Rattle.cache.proofs.move_on.Goals as goal

pub returns-then-is_reply : goal.returns-then-is_reply
returns-then-is_reply c =
    sym (reply-found c.args.a.now c.requires.0 (λ p. (c.slice_known-1.given p).fits) c.args.e c.args.g c.requires.1 (sym c.is_reply.ensures ∙ c.if-is_reply.true))

pub returns : goal.returns
returns c =
    let end = c.put_policy_state.new.a in
    let len : length end ≡ area_bytes = search rules in
    bytes-are end _ (λ p. (c.slice_known-2-1.given p).fits) len c.put_policy_state.ensures
