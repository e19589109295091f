-- `opens::opens_many` meets its contract: what is known of the sets passed, and that the others decide whether all stand
-- apart. Assumes nothing.
use borrow.Author.Rules.{rules}
use mathlib.Core.Path.{◌≡◌, sym, ap, ap₂, ◌∙◌, subst}
use mathlib.Core.Bool.{Bool, not, ◌&&◌, and-true, and-false}
use mathlib.Core.List.{List}
use Prim.Native.Nat.{ℕ, ◌+◌, ◌-◌, ◌/◌, ◌≤◌, ◌<◌}
use native.Mathlib.Nat.{add-zero}
use native.Mathlib.Omega.{arith}
use lib.Dec.{leb}
use lib.ListN.{get_or, take, drop}
use Rattle.words.specs.Words.{words}
use Rattle.words.proofs.Runs.{spans-words, run-word, length_run}
use Rattle.roles.specs.Sets.{shares, joined}
use Rattle.opens.specs.Parts.{stand_apart}
use Rattle.opens.proofs.OpensLaws.{apart-first, apart-fewer, opens-fall, opens-touch}
use Rattle.opens.proofs.PassLaws.{PassedFrom, passed_none, passed-two, last-falls, second-falls, apart-two, passed-all}
use Rattle.opens.proofs.opens_many.Invariants.{left}
use Rattle.opens.proofs.opens_many.Goals.{After-has_part_of_two}
use Rattle.opens.proofs.opens_many.Goals as goal

-- the sets behind the two at hand
behind : (ws : List ℕ) (at c m pairs later next : ℕ) → 0 < pairs → PassedFrom ws at c m (left c pairs) later next
    → PassedFrom ws at c m (left c (pairs - 1) + 1 + 1) later next
behind ws at c m pairs later next h p =
    let e : left c pairs ≡ left c (pairs - 1) + 1 + 1 = omega arith in
    subst (λ (j : ℕ). PassedFrom ws at c m j later next) e p

-- what the search says of the sets passed and of the others
held : (c : After-has_part_of_two) → let s = c.args in
    stand_apart (take s.c (drop s.at (words s.a.now))) ≡ (stand_apart (take (left s.c (c.loop-pair.pair - 1)) (drop s.at (words s.a.now))) && not c.has_part_of_two.result)
held c =
    let l = c.loop-pair in
    let a = c.args in
    let ws = words a.a.now in
    let e : left a.c l.pair ≡ left a.c (l.pair - 1) + 1 + 1 = omega arith in
    sym l.invariant.1
    ∙ ap (λ (j : ℕ). stand_apart (take j (drop a.at ws))) e
    ∙ apart-two ws a.at a.c a.all.bits (spans-words c.requires.0) (left a.c (l.pair - 1)) l.later.bits l.next c.set_at-s.result.bits c.set_at-t.result.bits
    (behind ws a.at a.c a.all.bits l.pair l.later.bits l.next (omega arith) l.invariant.0) c.set_at-s.ensures c.set_at-t.ensures c.has_part_of_two.ensures

pub loop-pair-init : goal.loop-pair-init
loop-pair-init c =
    let s = c.args in
    let ws = words s.a.now in
    let e : s.c ≡ left s.c (s.c / 2) = omega arith in (
      subst (λ (j : ℕ). PassedFrom ws s.at s.c s.all.bits j 0 s.all.bits) e (passed_none ws s.at s.c s.all.bits (spans-words c.requires.0)),
      ap (λ (j : ℕ). stand_apart (take j (drop s.at ws))) (sym e),
    )

pub returns-then-next-t : goal.returns-then-next-t
returns-then-next-t c =
    let l = c.loop-pair in
    let a = c.args in
    let ws = words a.a.now in
    let i = left a.c (l.pair - 1) in
    opens-fall a.all.bits a.d.bits (i + 1) (take a.c (drop a.at ws))
    (last-falls ws a.at a.c a.all.bits (spans-words c.requires.0) i l.later.bits l.next c.set_at-s.result.bits c.set_at-t.result.bits
    (behind ws a.at a.c a.all.bits l.pair l.later.bits l.next (omega arith) l.invariant.0) c.set_at-s.ensures c.set_at-t.ensures c.if-next-t.true)

pub returns-then-t-s : goal.returns-then-t-s
returns-then-t-s c =
    let l = c.loop-pair in
    let a = c.args in
    let ws = words a.a.now in
    let i = left a.c (l.pair - 1) in
    opens-fall a.all.bits a.d.bits i (take a.c (drop a.at ws))
    (second-falls ws a.at a.c a.all.bits (spans-words c.requires.0) i l.later.bits l.next c.set_at-s.result.bits c.set_at-t.result.bits
    (behind ws a.at a.c a.all.bits l.pair l.later.bits l.next (omega arith) l.invariant.0) c.set_at-s.ensures c.set_at-t.ensures (search rules) c.if-t-s.true)

pub returns-then-has_part_of_two : goal.returns-then-has_part_of_two
returns-then-has_part_of_two c =
    let a = c.args in
    let ws = words a.a.now in
    let before = stand_apart (take (left a.c (c.loop-pair.pair - 1)) (drop a.at ws)) in
    opens-touch a.all.bits a.d.bits (take a.c (drop a.at ws))
    (held (goal.at.returns-then-has_part_of_two c).After-has_part_of_two ∙ ap (λ (x : Bool). before && not x) c.if-has_part_of_two.true ∙ and-false before)

pub loop-pair-preserved : goal.loop-pair-preserved
loop-pair-preserved c =
    let l = c.loop-pair in
    let a = c.args in
    let ws = words a.a.now in
    let i = left a.c (l.pair - 1) in
    let before = stand_apart (take i (drop a.at ws)) in (
      passed-two ws a.at a.c a.all.bits (spans-words c.requires.0) i l.later.bits l.next c.set_at-s.result.bits c.set_at-t.result.bits
          (behind ws a.at a.c a.all.bits l.pair l.later.bits l.next (omega arith) l.invariant.0) c.set_at-s.ensures c.set_at-t.ensures (search rules)
          (c.joined-later.ensures ∙ ap (λ (x : ℕ). joined x l.later.bits) c.joined.ensures) (search rules),
      sym (held (goal.at.loop-pair-preserved c).After-has_part_of_two ∙ ap (λ (x : Bool). before && not x) c.if-has_part_of_two.false ∙ and-true before),
    )

pub returns : goal.returns
returns c =
    let l = c.loop-pair in
    let a = c.args in
    let ws = words a.a.now in
    let o = c.set_at-o in
    let some : 0 < a.c = c.requires.1 in
    let few : left a.c l.pair ≤ 1 = omega arith in
    ap₂ (λ (x y : Bool). (leb o.result.bits l.next && not x) && not y) (c.shares.ensures ∙ ap (λ (x : ℕ). shares x a.d.bits) c.joined-2.ensures) c.is_empty.ensures
    ∙ passed-all a.all.bits a.d.bits (take a.c (drop a.at ws)) o.result.bits (left a.c l.pair) l.later.bits l.next
    (omega (arith, length_run ws a.at a.c (spans-words c.requires.0)))
    (o.ensures ∙ ap (λ (i : ℕ). get_or ws i 0) (sym (add-zero a.at)) ∙ sym (run-word ws a.at a.c 0 some (spans-words c.requires.0)))
    (sym l.invariant.1 ∙ apart-fewer (left a.c l.pair) 1 (drop a.at ws) few (apart-first (drop a.at ws)))
    few l.invariant.0.1
