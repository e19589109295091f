-- `opens::stand_apart` meets its contract: the sets passed stand apart. Assumes nothing.
use borrow.Author.Rules.{rules}
use mathlib.Core.Path.{◌≡◌, sym, ap, ap₂, ◌∙◌}
use mathlib.Core.Bool.{Bool, true, false, not, ◌&&◌}
use Prim.Native.Nat.{ℕ, ◌+◌, ◌<◌}
use native.Mathlib.Omega.{arith}
use lib.ListN.{length, get_or, take, drop}
use Rattle.words.specs.Words.{words}
use Rattle.words.proofs.Laws.{length-words}
use Rattle.words.proofs.Runs.{run_take}
use Rattle.meaning.specs.Rows.{has_part}
use Rattle.opens.specs.Parts.{stand_apart}
use Rattle.opens.proofs.OpensLaws.{apart-one, apart-fewer, apart-broken, apart-first}
use Rattle.opens.proofs.stand_apart.Goals.{After-has_part}
use Rattle.opens.proofs.stand_apart.Goals as goal

-- with one set more, by what the search found
apart_next : (c : After-has_part) (t : Bool) → let s = c.args in let i = c.loop-i.i in
    c.has_part.result ≡ t → stand_apart (take (i + 1) (drop s.at (words s.a.now))) ≡ not t
apart_next c t e =
    let at = c.loop-i in
    let ws = words c.args.a.now in
    let o = c.set_at in
    let h = c.requires.enough in
    let before = take at.i (drop c.args.at ws) in
    let b : c.args.at + at.i < length ws = omega (arith, length-words c.args.a.now) in
    ap stand_apart (run_take ws c.args.at at.i b)
    ∙ apart-one before (get_or ws (c.args.at + at.i) 0)
    ∙ ap₂ (λ (p q : Bool). p && not q) at.invariant (ap (λ (x : ℕ). has_part x before) (sym o.ensures) ∙ sym c.has_part.ensures ∙ e)

pub loop-i-init : goal.loop-i-init
loop-i-init c = apart-first (drop c.args.at (words c.args.a.now))

pub returns-then-has_part : goal.returns-then-has_part
returns-then-has_part c =
    let at = c.loop-i in
    apart-broken (at.i + 1) c.args.c (drop c.args.at (words c.args.a.now)) (search rules) (apart_next (goal.at.returns-then-has_part c).After-has_part true c.if-has_part.true)

pub loop-i-preserved : goal.loop-i-preserved
loop-i-preserved c = apart_next (goal.at.loop-i-preserved c).After-has_part false c.if-has_part.false

pub returns : goal.returns
returns c =
    let at = c.loop-i in
    sym (apart-fewer c.args.c at.i (drop c.args.at (words c.args.a.now)) (search rules) at.invariant)
