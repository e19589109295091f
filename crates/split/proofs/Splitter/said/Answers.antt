-- `Splitter::said` meets its contract. Assumes nothing.
use borrow.Author.Rules.{rules}
use mathlib.Core.Path.{◌≡◌, sym, ap, ◌∙◌}
use Prim.Native.Nat.{ℕ, ◌-◌}
use mathlib.Core.Logic.{⊎_elim}
use native.Mathlib.Omega.{arith}
use lib.ListN.{length, take}
use Rattle.requests.specs.Request.{most_bytes, request_of}
use Rattle.split.specs.Split.{said}
use Rattle.split.proofs.SplitLaws.{held-short, held-long}
use Rattle.split.proofs.Splitter.said.Goals as goal

pub returns-in_default : goal.returns-in_default
unfolding said
returns-in_default c =
    let long : length c.args.self.bytes ≡ most_bytes = search rules in
    sym (ap said (held-long c.args.self (⊎_elim (λ h. omega arith) (λ h. omega arith) c.in_default.ensures.lookup.0)))

pub returns : goal.returns
unfolding said
returns c =
    let long : length c.args.self.bytes ≡ most_bytes = search rules in
    let l = c.in-Some.ensures.lookup.0 in
    let n : c.args.self.len - 0 ≡ c.args.self.len = omega arith in
    c.read_request.ensures ∙ ap request_of (l.2 ∙ ap (λ (k : ℕ). take k c.args.self.bytes) n) ∙ sym (ap said (held-short c.args.self (omega arith)))
