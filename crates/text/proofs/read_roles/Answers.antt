-- `text::read_roles` meets its contract: the roles not yet passed read as all of them. Assumes nothing.
use mathlib.Core.Path.{sym, ap, ◌∙◌}
use mathlib.Core.List.{List}
use Prim.Native.Nat.{ℕ}
use native.Mathlib.Omega.{arith}
use lib.ListN.{drop}
use Rattle.roles.specs.Sets.{joined, last_role}
use Rattle.roles.proofs.Laws.{below64-single}
use Rattle.text.specs.Number.{found, read_number}
use Rattle.text.specs.Field.{set_field}
use Rattle.text.proofs.Walks.{number_read, field-bad, roles-start, roles-none, roles-fall, roles-end, roles-comma, set_here}
use Rattle.text.proofs.read_roles.Goals as goal

pub returns-in_err-role : goal.returns-in_err-role
returns-in_err-role c =
    let l = c.loop-role in
    let line = c.args.line.now in
    c.from_residual.ensures ∙ ap (set_field line) (roles-none l.invariant (field-bad (λ v. v) line (read_number last_role (drop l.i line)) c.in_err-role.ensures))

pub returns-then-role-low : goal.returns-then-role-low
returns-then-role-low c =
    let t = number_read last_role c.args.line.now c.loop-role.i c.in_ok-role.role c.in_ok-role.next c.in_ok-role.ensures in
    ap (set_field c.args.line.now) (roles-fall c.loop-role.invariant t c.if-role-low.true)

pub returns-then-not-byte_at : goal.returns-then-not-byte_at
returns-then-not-byte_at c =
    let t = number_read last_role c.args.line.now c.loop-role.i c.in_ok-role.role c.in_ok-role.next c.in_ok-role.ensures in
    let j = c.joined-set.ensures ∙ ap (joined c.loop-role.set.bits) (c.single.ensures ∙ below64-single c.in_ok-role.role (omega (arith, t.small))) in
    let rest : List ℕ = drop c.in_ok-role.next c.args.line.now in
    set_here c.args.line.now c.joined-set.result c.in_ok-role.next t.inside
    ∙ ap (set_field c.args.line.now) (ap (λ (x : ℕ). found x rest) j ∙ roles-end c.loop-role.invariant t c.if-role-low.false (sym c.if-not-byte_at.ensures))

pub loop-role-preserved : goal.loop-role-preserved
loop-role-preserved c =
    let t = number_read last_role c.args.line.now c.loop-role.i c.in_ok-role.role c.in_ok-role.next c.in_ok-role.ensures in
    let j = c.joined-set.ensures ∙ ap (joined c.loop-role.set.bits) (c.single.ensures ∙ below64-single c.in_ok-role.role (omega (arith, t.small))) in
    rw j (roles-comma c.loop-role.invariant t c.if-role-low.false (sym c.if-not-byte_at.ensures))

pub loop-role-init : goal.loop-role-init
loop-role-init c = roles-start c.args.line.now c.args.at

pub overflow_add-low : goal.overflow_add-low
overflow_add-low c =
    let t = number_read last_role c.args.line.now c.loop-role.i c.in_ok-role.role c.in_ok-role.next c.in_ok-role.ensures in
    omega arith

pub loop-role-smaller : goal.loop-role-smaller
loop-role-smaller c =
    let t = number_read last_role c.args.line.now c.loop-role.i c.in_ok-role.role c.in_ok-role.next c.in_ok-role.ensures in
    omega arith
