-- `opens::has_part` meets its contract: the answer for the words not yet passed is the answer for all. Assumes nothing.
use borrow.Author.Rules.{rules}
use mathlib.Core.Path.{◌≡◌, sym, ap, ◌∙◌}
use mathlib.Core.List.{List}
use Prim.Native.Nat.{ℕ, ◌<◌}
use native.Mathlib.Omega.{arith}
use lib.ListN.{length, get_or, take, drop}
use Rattle.words.specs.Words.{words}
use Rattle.words.proofs.Runs.{spans-words, run-word, run_long, length_run}
use Rattle.roles.specs.Sets.{part_of}
use Rattle.meaning.specs.Rows.{has_part}
use Rattle.meaning.proofs.Walks.{any-hit, any-miss, any-end}
use Rattle.opens.proofs.has_part.Goals.{After-is_part_of}
use Rattle.opens.proofs.has_part.Goals as goal

-- the word at hand is one of those searched
module _ (c : After-is_part_of) where
  abbrev s : After-is_part_of
  s = c

  abbrev k : ℕ
  k = c.loop-k.k

  abbrev ws : List ℕ
  ws = words s.args.a.now

  abbrev searched : List ℕ
  searched = take s.args.i (drop s.args.at ws)

  there : k < length searched
  there = run_long ws s.args.at s.args.i k (search rules) (spans-words s.requires)

  here : part_of (get_or searched k 0) s.args.s.bits ≡ part_of c.set_at.result.bits s.args.s.bits
  here = ap (λ (x : ℕ). part_of x s.args.s.bits) (run-word ws s.args.at s.args.i k (search rules) (spans-words s.requires) ∙ sym c.set_at.ensures)

pub returns-then-is_part_of : goal.returns-then-is_part_of
unfolding has_part
returns-then-is_part_of c = any-hit _ (searched (goal.at.returns-then-is_part_of c).After-is_part_of) (k (goal.at.returns-then-is_part_of c).After-is_part_of) c.loop-k.invariant (there (goal.at.returns-then-is_part_of c).After-is_part_of) (here (goal.at.returns-then-is_part_of c).After-is_part_of ∙ sym c.is_part_of.ensures ∙ c.if-is_part_of.true)

pub loop-k-preserved : goal.loop-k-preserved
unfolding has_part
loop-k-preserved c = any-miss _ (searched (goal.at.loop-k-preserved c).After-is_part_of) (k (goal.at.loop-k-preserved c).After-is_part_of) c.loop-k.invariant (there (goal.at.loop-k-preserved c).After-is_part_of) (here (goal.at.loop-k-preserved c).After-is_part_of ∙ sym c.is_part_of.ensures ∙ c.if-is_part_of.false)

pub returns : goal.returns
unfolding has_part
returns c =
    let ws = words c.args.a.now in
    any-end _ (take c.args.i (drop c.args.at ws)) c.loop-k.k c.loop-k.invariant
    (omega (arith, length_run ws c.args.at c.args.i (spans-words c.requires)))
