-- `wickthrush::wickthrush_decide` meets its contract: a role is at most 64, so 32 bits hold it. Assumes nothing.
use borrow.Author.Rules.{rules}
use mathlib.Core.Path.{◌≡◌, ap, ◌∙◌}
use native.Mathlib.Omega.{arith}
use Rattle.meaning.specs.Rows.{Decided}
use Rattle.calls.proofs.CallLaws.{decide-role}
use Rattle.calls.proofs.Numbers.{decided-number}
use Rattle.wickthrush.proofs.wickthrush_decide.Goals as goal

pub overflow_cast-result : goal.overflow_cast-result
overflow_cast-result c =
    let a = c.args in
    let same = c.role.ensures ∙ ap (λ (d : Decided). d.role) c.decide-decided.ensures in
    record { fits = let most = decide-role a.area.now a.permission a.set in omega (arith, same) }

pub returns : goal.returns
returns c =
    let n = c in
    let same = n.decide-decided.ensures in
    λ i. record {
      answer = (n.number.ensures ∙ decided-number n.decide-decided.result ∙ ap (λ (d : Decided). d.answer) same) i;
      role = (n.role.ensures ∙ ap (λ (d : Decided). d.role) same) i;
    }
