-- `listing::read_line` meets its contract. Assumes nothing.
use mathlib.Core.Path.{◌≡◌, sym, ap, ◌∙◌}
use mathlib.Core.Bool.{true, false}
use Prim.Native.Nat.{◌+◌, ◌<◌}
use native.Mathlib.Omega.{arith}
use lib.ListN.{length, drop}
use Rattle.roles.specs.Sets.{last_role}
use Rattle.text.specs.Ascii.{space}
use Rattle.text.specs.Number.{next_is, read_number}
use Rattle.text.specs.Field.{number_field}
use Rattle.text.proofs.Walks.{NumberThere, number_read, field-bad, number-here, byte_inside}
use Rattle.listing.proofs.LineLaws.{line-bad, line-unspaced, line-spaced}
use Rattle.listing.proofs.read_line.Goals.{In_ok-role, Else-not-byte_at}
use Rattle.listing.proofs.read_line.Goals as goal

-- a role was read
there : (c : In_ok-role) → NumberThere last_role c.args.line.now 0 c.in_ok-role.role c.in_ok-role.next
there c = number_read last_role c.args.line.now 0 c.in_ok-role.role c.in_ok-role.next c.in_ok-role.ensures

-- a space comes behind it
spaced : (c : Else-not-byte_at) → next_is space (drop c.in_ok-role.next c.args.line.now) ≡ true
spaced c = sym c.byte_at.ensures ∙ c.if-not-byte_at.false

inside : (c : Else-not-byte_at) → c.in_ok-role.next < length c.args.line.now
inside c = byte_inside space c.args.line.now c.in_ok-role.next (spaced c)

pub returns-in_err-role : goal.returns-in_err-role
returns-in_err-role c =
    let line = c.args.line.now in
    c.from_residual.ensures ∙ ap (number_field line) (sym (line-bad line (field-bad (λ v. v) line (read_number last_role line) c.in_err-role.ensures)))

pub returns-then-not-byte_at : goal.returns-then-not-byte_at
returns-then-not-byte_at c = ap (number_field c.args.line.now) (sym (line-unspaced (there (goal.at.returns-then-not-byte_at c).In_ok-role) (sym c.byte_at.ensures ∙ c.if-not-byte_at.true)))

pub returns-then-not-is_length : goal.returns-then-not-is_length
returns-then-not-is_length c =
    let a = goal.at.returns-then-not-is_length c in
    ap (number_field c.args.line.now) (sym (line-spaced (there a.In_ok-role) false (spaced a.Else-not-byte_at) (sym c.if-not-is_length.true ∙ c.is_length.ensures)))

pub returns : goal.returns
returns c =
    let a = goal.at.returns c in
    let i = inside a.Else-not-byte_at in
    number-here c.args.line.now c.in_ok-role.role (c.in_ok-role.next + 1) (omega arith)
    ∙ ap (number_field c.args.line.now) (sym (line-spaced (there a.In_ok-role) true (spaced a.Else-not-byte_at) (sym c.if-not-is_length.false ∙ c.is_length.ensures)))

pub overflow_sub-line : goal.overflow_sub-line
overflow_sub-line c = let i = inside (goal.at.overflow_sub-line c).Else-not-byte_at in omega arith
