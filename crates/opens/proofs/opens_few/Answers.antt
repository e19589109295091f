-- `opens::opens_few` meets its contract: what is known of the sets passed, from the last on. Assumes nothing.
use borrow.Author.Rules.{rules}
use mathlib.Core.Path.{◌≡◌, ap, ap₂, ◌∙◌, subst}
use mathlib.Core.Bool.{Bool, not, ◌&&◌}
use Prim.Native.Nat.{ℕ, ◌+◌, ◌-◌, ◌<◌}
use native.Mathlib.Omega.{arith}
use lib.Dec.{eqb}
use lib.ListN.{take, drop}
use Rattle.words.specs.Words.{words}
use Rattle.words.proofs.Runs.{spans-words, length_run}
use Rattle.roles.specs.Sets.{shares}
use Rattle.opens.proofs.OpensLaws.{opens-fall, opens-compared}
use Rattle.opens.proofs.PassLaws.{PassedFrom, passed_none, passed-one, passed-falls}
use Rattle.opens.proofs.opens_few.Goals.{After-set_at-o}
use Rattle.opens.proofs.opens_few.Goals as goal

pub loop-j-init : goal.loop-j-init
loop-j-init c = let s = c.args in passed_none (words s.a.now) s.at s.c s.all.bits (spans-words c.requires.0)

-- the sets behind the one at hand
behind : (c : After-set_at-o) → let s = c.args in let l = c.loop-j in PassedFrom (words s.a.now) s.at s.c s.all.bits (l.j - 1 + 1) l.later.bits l.next
behind c = let l = c.loop-j in let e : l.j ≡ l.j - 1 + 1 = omega arith in
    subst (λ (j : ℕ). PassedFrom (words c.args.a.now) c.args.at c.args.c c.args.all.bits j l.later.bits l.next) e l.invariant

pub returns-then-next-o : goal.returns-then-next-o
returns-then-next-o c =
    let l = c.loop-j in
    let a = c.args in
    opens-fall a.all.bits a.d.bits (l.j - 1) (take a.c (drop a.at (words a.a.now)))
    (passed-falls (words a.a.now) a.at a.c a.all.bits (spans-words c.requires.0) (l.j - 1) l.later.bits l.next c.set_at-o.result.bits
    (behind (goal.at.returns-then-next-o c).After-set_at-o) c.set_at-o.ensures c.if-next-o.true)

pub loop-j-preserved : goal.loop-j-preserved
loop-j-preserved c =
    let l = c.loop-j in
    let a = c.args in
    passed-one (words a.a.now) a.at a.c a.all.bits (spans-words c.requires.0) (l.j - 1) l.later.bits l.next c.set_at-o.result.bits
    (behind (goal.at.loop-j-preserved c).After-set_at-o) c.set_at-o.ensures c.joined-later.ensures (search rules)

pub returns : goal.returns
returns c =
    let at = c.loop-j in
    let a = c.args in
    let ws = words a.a.now in
    let l = take a.c (drop a.at ws) in
    let end : at.j ≡ 0 = omega arith in
    let some : 0 < a.c = c.requires.1 in
    ap₂ ◌&&◌
    (ap₂ (λ (x : Bool) (y : ℕ). not x && not (eqb y 0)) (c.shares.ensures ∙ ap (λ (x : ℕ). shares x a.d.bits) (rw end at at.invariant.1.union)) (rw end at at.invariant.1.first))
    c.stand_apart.ensures
    ∙ opens-compared a.all.bits a.d.bits l (omega (arith, length_run ws a.at a.c (spans-words c.requires.0))) (rw end at at.invariant.1.climbs)
