-- `RoleSet::all_below` meets its contract. Assumes nothing.
use mathlib.Core.Path.{sym, ap, ◌∙◌}
use Prim.Native.Nat.{ℕ, ◌-◌}
use native.Mathlib.Nat.{le_of_lt}
use Rattle.roles.specs.Sets.{all_below}
use Rattle.roles.proofs.Laws.{below64-all_below, below64-all}
use Rattle.roles.proofs.Shift.{shl_one}
use Rattle.roles.proofs.RoleSet.all_below.Goals as goal

pub returns-then-n-ge-MOST_ROLES : goal.returns-then-n-ge-MOST_ROLES
unfolding all_below
returns-then-n-ge-MOST_ROLES c = sym (below64-all c.args.n c.if-n-ge-MOST_ROLES.true)

pub returns : goal.returns
unfolding all_below
returns c =
    let n = c.args.n in
    ap (λ (x : ℕ). x - 1) (shl_one n c.if-n-ge-MOST_ROLES.false) ∙ sym (below64-all_below n (le_of_lt c.if-n-ge-MOST_ROLES.false))
