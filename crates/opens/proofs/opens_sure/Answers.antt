-- `opens::opens_sure` meets its contract: of the sets passed, each has a role outside the later ones. Assumes nothing.
use borrow.Author.Rules.{rules}
use mathlib.Core.Path.{◌≡◌, ap, ◌∙◌, subst}
use mathlib.Core.Bool.{not, true}
use mathlib.Core.List.{◌∷◌}
use Prim.Native.Nat.{ℕ, ◌+◌, ◌-◌}
use native.Mathlib.Omega.{arith}
use lib.ListN.{take, drop}
use Rattle.words.specs.Words.{words}
use Rattle.words.proofs.Runs.{spans-words}
use Rattle.roles.specs.Sets.{shares}
use Rattle.opens.specs.Parts.{each_outside}
use Rattle.opens.proofs.OpensLaws.{outside-more, outside-ends, sure-falls, sure-ends, sure-made}
use Rattle.opens.proofs.PassLaws.{PassedFrom, one-before, passed_none, outside-none, passed-one, passed-falls}
use Rattle.opens.proofs.opens_sure.Goals.{After-set_at-o}
use Rattle.opens.proofs.opens_sure.Goals as goal

pub loop-j-init : goal.loop-j-init
loop-j-init c =
    let s = c.args in
    (passed_none (words s.a.now) s.at s.c s.all.bits (spans-words c.requires), outside-none (words s.a.now) s.at s.c s.all.bits (spans-words c.requires))

-- the sets behind the one at hand
module _ (c : After-set_at-o) where
  abbrev Behind : ℕ → Type 0
  Behind j =
      PassedFrom (words c.args.a.now) c.args.at c.args.c c.args.all.bits j c.loop-j.later.bits c.loop-j.next
      × (each_outside (drop j (take c.args.c (drop c.args.at (words c.args.a.now)))) ≡ true)

  behind : Behind (c.loop-j.j - 1 + 1)
  behind = let e : c.loop-j.j ≡ c.loop-j.j - 1 + 1 = omega arith in subst Behind e c.loop-j.invariant

  before : drop (c.loop-j.j - 1) (take c.args.c (drop c.args.at (words c.args.a.now))) ≡ c.set_at-o.result.bits ∷ drop (c.loop-j.j - 1 + 1) (take c.args.c (drop c.args.at (words c.args.a.now)))
  before =
      one-before (words c.args.a.now) c.args.at c.args.c c.args.all.bits (spans-words c.requires) (c.loop-j.j - 1) c.loop-j.later.bits c.loop-j.next c.set_at-o.result.bits
      behind.0 c.set_at-o.ensures

pub returns-then-next-o : goal.returns-then-next-o
returns-then-next-o c =
    let l = c.loop-j in
    let a = c.args in
    sure-falls a.all.bits a.d.bits (l.j - 1) (take a.c (drop a.at (words a.a.now)))
    (passed-falls (words a.a.now) a.at a.c a.all.bits (spans-words c.requires) (l.j - 1) l.later.bits l.next c.set_at-o.result.bits
    (behind (goal.at.returns-then-next-o c).After-set_at-o).0 c.set_at-o.ensures c.if-next-o.true)

pub returns-then-both-later : goal.returns-then-both-later
returns-then-both-later c =
    let l = c.loop-j in
    let a = c.args in
    let sets = take a.c (drop a.at (words a.a.now)) in
    let k = (goal.at.returns-then-both-later c).After-set_at-o in
    let both = c.joined-both in
    sure-ends a.all.bits a.d.bits (l.j - 1) sets
    (ap each_outside (before k)
    ∙ outside-ends c.set_at-o.result.bits (drop (l.j - 1 + 1) sets) l.later.bits both.result.bits (behind k).0.1.union both.ensures c.if-both-later.true)

pub loop-j-preserved : goal.loop-j-preserved
loop-j-preserved c =
    let l = c.loop-j in
    let a = c.args in
    let sets = take a.c (drop a.at (words a.a.now)) in
    let k = (goal.at.loop-j-preserved c).After-set_at-o in
    let both = c.joined-both in (
      passed-one (words a.a.now) a.at a.c a.all.bits (spans-words c.requires) (l.j - 1) l.later.bits l.next c.set_at-o.result.bits
          (behind k).0 c.set_at-o.ensures both.ensures (search rules),
      ap each_outside (before k)
          ∙ outside-more c.set_at-o.result.bits (drop (l.j - 1 + 1) sets) l.later.bits both.result.bits (behind k).0.1.union both.ensures c.if-both-later.false
          ∙ (behind k).1,
    )

pub returns : goal.returns
returns c =
    let at = c.loop-j in
    let a = c.args in
    let l = take a.c (drop a.at (words a.a.now)) in
    let end : at.j ≡ 0 = omega arith in
    ap not (c.shares.ensures ∙ ap (λ (x : ℕ). shares x a.d.bits) (rw end at at.invariant.0.1.union))
    ∙ sure-made a.all.bits a.d.bits l (rw end at at.invariant.0.1.climbs) (rw end at at.invariant.1)
