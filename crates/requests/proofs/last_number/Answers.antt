-- `requests::last_number` meets its contract. Assumes nothing.
use mathlib.Core.Path.{◌∙◌}
use mathlib.Core.List.{List}
use Prim.Native.Nat.{ℕ}
use Rattle.std.specs.Prelude.{Option, Some, None}
use Rattle.requests.specs.Fields.{ended, last_number}
use Rattle.requests.proofs.FieldLaws.{ended-there, ended-later}
use Rattle.requests.proofs.Made.{of_number_lem}
use Rattle.requests.proofs.last_number.Goals as goal

-- a number, if the line ends behind it
abbrev at-end : ℕ → List ℕ → Option ℕ
at-end v u = ended None (Some v) u

pub returns-in_err-value : goal.returns-in_err-value
unfolding last_number
returns-in_err-value c =
    let a = c.args in
    c.from_residual.ensures ∙ of_number_lem None a.line.now at-end a.limit a.at c.in_err-value.ensures

-- the line ends behind the number
pub returns-then-line-next : goal.returns-then-line-next
unfolding last_number
returns-then-line-next c =
    let a = c.args in
    ended-there None _ a.line.now c.in_ok-value.next c.if-line-next.true ∙ of_number_lem None a.line.now at-end a.limit a.at c.in_ok-value.ensures

-- bytes come behind the number
pub returns-else-line-next : goal.returns-else-line-next
unfolding last_number
returns-else-line-next c =
    let a = c.args in
    ended-later None (Some _) a.line.now c.in_ok-value.next c.if-line-next.false ∙ of_number_lem None a.line.now at-end a.limit a.at c.in_ok-value.ensures
