-- `stream::answer_input` meets its contract: each turn is a move, or the last. Assumes nothing.
use Rattle.std.proofs.Common.{◌≡◌, Bool, true, false, not, ℕ, refl, sym, ◌∙◌, subst, true≢false, arith}
use denote.Enum.Bare.{sameb}
use Rattle.stream.specs.contracts.Stand.{the_type}
use Rattle.stream.specs.declared.Stand.{Stand}
use Rattle.stream.specs.declared.Stand.TheVariants.{Running, Failed, Done}
use Rattle.stream.specs.Moves.{most_turns, Ran}
use Rattle.stream.proofs.Going.{start-goes, turn-goes, goes-ran}
use Rattle.stream.proofs.answer_input.Goals as goal

-- the loop's test
running : (s : Stand) {b : Bool} → b ≡ not (sameb the_type s Running) → b ≡ false → s ≡ Running
running Running e f = refl
running Failed e f = absurd (true≢false (sym e ∙ f))
running Done e f = absurd (true≢false (sym e ∙ f))

stopped : (s : Stand) {b : Bool} → b ≡ not (sameb the_type s Running) → b ≡ true → ¬ (s ≡ Running)
stopped Running e t r = true≢false (sym t ∙ e)
stopped Failed e t r = cc
stopped Done e t r = cc

pub loop-turns-init : goal.loop-turns-init
loop-turns-init g c = start-goes c.start.result c.args.area.now c.args.piece.now c.start.ensures

pub loop-turns-preserved : goal.loop-turns-preserved
loop-turns-preserved g c =
    let at = c.loop-turns in
    turn-goes at.turns at.flow at.area at.piece
    (record { within = at.invariant.within; some = omega (arith, at.auto.piece, c.requires.0); running = running at.flow.stand c.ne.ensures c.if-ne.false }) at.invariant
    at.out (omega (arith, at.auto.out, c.requires.1)) _ _ _ _ c.turn-flow.ensures

pub returns-then-ne : goal.returns-then-ne
returns-then-ne g c =
    let at = c.loop-turns in
    goes-ran at.turns at.flow at.area at.piece (λ r. absurd (stopped at.flow.stand c.ne.ensures c.if-ne.true r)) at.invariant

pub returns : goal.returns
returns g c =
    let at = c.loop-turns in
    let all : at.turns ≡ most_turns = omega (arith, at.auto.turns-end, c.loop-turns-test.false) in
    subst (λ (n : ℕ). Ran c.args.area.now n at.flow at.area at.piece) all (goes-ran at.turns at.flow at.area at.piece (λ r. all) at.invariant)
