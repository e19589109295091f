-- `text::read_set` meets its contract: by the first byte. Assumes nothing.
use borrow.Author.Rules.{rules}
use mathlib.Core.Path.{◌≡◌, sym, ap, ◌∙◌}
use mathlib.Core.Bool.{true}
use Prim.Native.Nat.{◌+◌, ◌<◌}
use native.Mathlib.Omega.{arith}
use lib.ListN.{length, drop}
use lib.Seq.{drop-drop}
use Rattle.text.specs.Ascii.{minus}
use Rattle.text.specs.Number.{found, next_is}
use Rattle.text.specs.Field.{set_field}
use Rattle.text.proofs.SetLaws.{set-minus, set-roles}
use Rattle.text.proofs.Walks.{byte_inside, set_here}
use Rattle.text.proofs.read_set.Goals.{Then-byte_at}
use Rattle.text.proofs.read_set.Goals as goal

-- a `-` stands at the place
there : (c : Then-byte_at) → next_is minus (drop c.args.at c.args.line.now) ≡ true
there c = sym c.byte_at.ensures ∙ c.if-byte_at.true

inside : (c : Then-byte_at) → c.args.at < length c.args.line.now
inside c = let a = c.args in byte_inside minus a.line.now a.at (there c)

pub returns-then-byte_at : goal.returns-then-byte_at
returns-then-byte_at c =
    let a = c.args in
    set_here a.line.now (record { bits = 0 }) (a.at + 1) (let h = inside (goal.at.returns-then-byte_at c).Then-byte_at in omega arith)
    ∙ ap (set_field a.line.now) (sym (set-minus (drop a.at a.line.now) (there (goal.at.returns-then-byte_at c).Then-byte_at) ∙ ap (found 0) (drop-drop 1 a.at a.line.now)))

pub returns : goal.returns
returns c =
    let a = c.args in
    c.read_roles.ensures
    ∙ ap (set_field a.line.now) (sym (set-roles (drop a.at a.line.now) (sym c.byte_at.ensures ∙ c.if-byte_at.false)))

pub overflow_add-result : goal.overflow_add-result
overflow_add-result c = let h = inside (goal.at.overflow_add-result c).Then-byte_at in search rules
