-- `requests::permission_set` meets its contract. Assumes nothing.
use mathlib.Core.Path.{◌∙◌}
use mathlib.Core.List.{List}
use Prim.Native.Nat.{ℕ, ◌-◌}
use native.Mathlib.Omega.{arith}
use lib.ListN.{length, drop}
use Rattle.std.specs.Prelude.{Option, Some, None}
use Rattle.roles.specs.declared.RoleSet.{RoleSet}
use Rattle.meaning.specs.Events.{last_permission}
use Rattle.requests.specs.Fields.{set_then, permission_set}
use Rattle.requests.proofs.FieldLaws.{number-spaced}
use Rattle.requests.proofs.Made.{of_number_lem, of-set-place}
use Rattle.requests.proofs.permission_set.Goals as goal

-- what comes of a permission and the bytes behind it
abbrev behind : List ℕ → ℕ → List ℕ → Option (ℕ × RoleSet × ℕ)
behind line p t = set_then None (λ s u. Some (p, s, length line - length u)) t

pub returns-in_err-permission : goal.returns-in_err-permission
unfolding permission_set
returns-in_err-permission c =
    let line = c.args.line.now in
    c.from_residual.ensures ∙ of_number_lem None line (behind line) last_permission 1 c.in_err-permission.ensures

pub returns-in_err-set : goal.returns-in_err-set
unfolding permission_set
returns-in_err-set c =
    let line = c.args.line.now in
    let p = c.in_ok-permission in
    c.from_residual-in_err-set.ensures
    ∙ of-set-place None line (λ x n. Some (p.permission, x, n)) (drop p.next line) c.in_err-set.ensures
    ∙ of_number_lem None line (behind line) last_permission 1 p.ensures

pub returns : goal.returns
unfolding permission_set
returns c =
    let line = c.args.line.now in
    let p = c.in_ok-permission in
    of-set-place None line (λ x n. Some (p.permission, x, n)) (drop p.next line) c.in_ok-set.ensures
    ∙ of_number_lem None line (behind line) last_permission 1 p.ensures

pub overflow_cast-result : goal.overflow_cast-result
overflow_cast-result c =
    let p = c.in_ok-permission in
    omega (arith, (number-spaced c.args.line.now 1 last_permission p.permission p.next p.ensures).1)
