-- `check::rest_unused` meets its contract: the answer for the rows not yet passed is the answer for all. Assumes nothing.
use mathlib.Core.Path.{◌≡◌, sym, ap, ◌∙◌, subst}
use mathlib.Core.Bool.{true, false}
use mathlib.Core.List.{List}
use Prim.Native.Nat.{ℕ, ◌+◌, ◌-◌, ◌*◌, ◌≤◌}
use native.Mathlib.Omega.{arith}
use Rattle.words.specs.Words.{words, all_zero}
use Rattle.area.specs.Layout.{most_rows}
use Rattle.area.specs.Parts.{zero_rows}
use Rattle.area.proofs.CheckLaws.{zero_more}
use Rattle.area.proofs.check.rest_unused.Invariants.{Passed}
use Rattle.area.proofs.check.rest_unused.Goals as goal

abbrev stride : ℕ
stride = 8

module _ (ws : List ℕ) (used i : ℕ) (p : Passed ws used i) where
  -- k rows more
  more : (k : ℕ) → k ≤ most_rows - i → zero_rows ws i k ≡ true → Passed ws used (i + k)
  more k h e =
      let b = p.0 in
      let q : most_rows - i - k ≡ most_rows - (i + k) = omega arith in
      (omega arith, p.1 ∙ zero_more ws i k (most_rows - i) true e h ∙ ap (zero_rows ws (i + k)) q)

  broken : (k : ℕ) → k ≤ most_rows - i → zero_rows ws i k ≡ false → false ≡ zero_rows ws used (most_rows - used)
  broken k h e = sym (p.1 ∙ zero_more ws i k (most_rows - i) false e h)

  all-passed : most_rows ≤ i → true ≡ zero_rows ws used (most_rows - used)
  unfolding zero_rows all_zero
  all-passed h = let q : most_rows - i ≡ 0 = omega arith in sym (p.1 ∙ ap (zero_rows ws i) q)

pub returns-then-not-are_unused : goal.returns-then-not-are_unused
returns-then-not-are_unused c =
    let l = c.loop-k in
    broken (words c.args.a.now) c.args.used (c.args.used + l.k * 8) l.invariant stride (omega arith) (sym c.are_unused.ensures ∙ c.if-not-are_unused.true)

pub loop-k-preserved : goal.loop-k-preserved
loop-k-preserved c =
    let l = c.loop-k in
    let used = c.args.used in
    let next : used + l.k * 8 + stride ≡ used + (l.k + 1) * 8 = omega arith in
    subst (Passed (words c.args.a.now) used) next
    (more (words c.args.a.now) used (used + l.k * 8) l.invariant stride (omega arith) (sym c.are_unused.ensures ∙ c.if-not-are_unused.false))

pub returns-then-not-are_unused-2 : goal.returns-then-not-are_unused-2
returns-then-not-are_unused-2 c =
    let l = c.loop-i in
    broken (words c.args.a.now) c.args.used l.i l.invariant 1 (omega arith) (sym c.are_unused-in-loop-i.ensures ∙ c.if-not-are_unused-2.true)

pub loop-i-preserved : goal.loop-i-preserved
loop-i-preserved c =
    let l = c.loop-i in
    more (words c.args.a.now) c.args.used l.i l.invariant 1 (omega arith) (sym c.are_unused-in-loop-i.ensures ∙ c.if-not-are_unused-2.false)

pub returns : goal.returns
returns c = let l = c.loop-i in all-passed (words c.args.a.now) c.args.used l.i l.invariant (omega arith)
