-- `opens::has_part_of_two` meets its contract: the answer for the words not yet passed is the answer for all. Assumes nothing.
use borrow.Author.Rules.{rules}
use mathlib.Core.Path.{◌≡◌, sym, ap, ap₂, ◌∙◌}
use mathlib.Core.Bool.{Bool, ◌||◌, or-true}
use mathlib.Core.List.{List}
use Prim.Native.Nat.{ℕ, ◌+◌, ◌<◌}
use native.Mathlib.Omega.{arith}
use lib.ListN.{length, get_or, take, drop, length-take}
use Rattle.words.specs.Words.{words}
use Rattle.words.proofs.Laws.{length-words}
use Rattle.words.proofs.Runs.{run-word, run_long}
use Rattle.roles.specs.Sets.{part_of}
use Rattle.meaning.specs.Lists.{any}
use Rattle.meaning.proofs.Walks.{any-hit, any-miss, any-end}
use Rattle.opens.proofs.TwoLaws.{part_of_either, two-parts}
use Rattle.opens.proofs.has_part_of_two.Goals.{After-is_part_of_either}
use Rattle.opens.proofs.has_part_of_two.Goals as goal

-- the word at hand is one of those searched
module _ (c : After-is_part_of_either) where
  abbrev s : After-is_part_of_either
  s = c

  abbrev k : ℕ
  k = c.loop-k.k

  abbrev ws : List ℕ
  ws = words s.args.a.now

  abbrev searched : List ℕ
  searched = take s.args.i (drop s.args.at ws)

  long : s.args.at + s.args.i < length ws
  long = let b = s.requires.0.enough in omega (arith, length-words s.args.a.now)

  there : k < length searched
  there = let b = long in run_long ws s.args.at s.args.i k (search rules) (omega arith)

  here : {t : Bool} → c.is_part_of_either.result ≡ t → part_of_either s.args.s.bits s.args.t.bits (get_or searched k 0) ≡ t
  here e =
      let b = long in
      ap (part_of_either s.args.s.bits s.args.t.bits) (run-word ws s.args.at s.args.i k (search rules) (omega arith) ∙ sym c.set_at.ensures)
      ∙ sym c.is_part_of_either.ensures ∙ e

pub returns-then-is_part_of : goal.returns-then-is_part_of
returns-then-is_part_of c =
    let ws = words c.args.a.now in
    let b = c.requires.0.enough in
    let earlier = any (part_of_either c.args.s.bits c.args.t.bits) (take c.args.i (drop c.args.at ws)) in
    sym (or-true earlier)
    ∙ ap (λ (x : Bool). earlier || x) (sym c.if-is_part_of.true ∙ c.is_part_of.ensures)
    ∙ two-parts c.args.s.bits c.args.t.bits ws c.args.at c.args.i (omega (arith, length-words c.args.a.now)) c.requires.1

pub returns-then-is_part_of_either : goal.returns-then-is_part_of_either
returns-then-is_part_of_either c =
    ap (λ (x : Bool). x || part_of (s (goal.at.returns-then-is_part_of_either c).After-is_part_of_either).args.s.bits (s (goal.at.returns-then-is_part_of_either c).After-is_part_of_either).args.t.bits)
    (any-hit _ (searched (goal.at.returns-then-is_part_of_either c).After-is_part_of_either) (k (goal.at.returns-then-is_part_of_either c).After-is_part_of_either) c.loop-k.invariant (there (goal.at.returns-then-is_part_of_either c).After-is_part_of_either) (here (goal.at.returns-then-is_part_of_either c).After-is_part_of_either c.if-is_part_of_either.true))
    ∙ two-parts (s (goal.at.returns-then-is_part_of_either c).After-is_part_of_either).args.s.bits (s (goal.at.returns-then-is_part_of_either c).After-is_part_of_either).args.t.bits (ws (goal.at.returns-then-is_part_of_either c).After-is_part_of_either) (s (goal.at.returns-then-is_part_of_either c).After-is_part_of_either).args.at (s (goal.at.returns-then-is_part_of_either c).After-is_part_of_either).args.i (long (goal.at.returns-then-is_part_of_either c).After-is_part_of_either) (s (goal.at.returns-then-is_part_of_either c).After-is_part_of_either).requires.1

pub loop-k-preserved : goal.loop-k-preserved
loop-k-preserved c = any-miss _ (searched (goal.at.loop-k-preserved c).After-is_part_of_either) (k (goal.at.loop-k-preserved c).After-is_part_of_either) c.loop-k.invariant (there (goal.at.loop-k-preserved c).After-is_part_of_either) (here (goal.at.loop-k-preserved c).After-is_part_of_either c.if-is_part_of_either.false)

pub returns : goal.returns
returns c =
    let ws = words c.args.a.now in
    let b = c.requires.0.enough in
    ap₂ ◌||◌
    (any-end (part_of_either c.args.s.bits c.args.t.bits) (take c.args.i (drop c.args.at ws)) c.loop-k.k c.loop-k.invariant
    (omega (arith, length-take c.args.i (drop c.args.at ws))))
    (sym c.if-is_part_of.false ∙ c.is_part_of.ensures)
    ∙ two-parts c.args.s.bits c.args.t.bits ws c.args.at c.args.i (omega (arith, length-words c.args.a.now)) c.requires.1
