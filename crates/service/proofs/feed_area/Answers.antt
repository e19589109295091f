-- `service::feed_area` meets its contract. Assumes nothing.
use Rattle.std.proofs.Common.{◌≡◌, Bool, true, false, not, refl, sym, ◌∙◌, true≢false}
use denote.Enum.Bare.{sameb}
use Rattle.stream.specs.contracts.Stand.{the_type}
use Rattle.stream.specs.declared.Stand.{Stand}
use Rattle.stream.specs.declared.Stand.TheVariants.{Running, Failed, Done}
use Rattle.service.specs.declared.Fed.TheVariants.{Good, Bad}
use Rattle.service.specs.FedAs.{fed_by}
use Rattle.service.proofs.feed_area.Goals as goal

-- the first test
is-done : (s : Stand) {b : Bool} → b ≡ not (sameb the_type s Done) → b ≡ false → s ≡ Done
is-done Done e f = refl
is-done Running e f = absurd (true≢false (sym e ∙ f))
is-done Failed e f = absurd (true≢false (sym e ∙ f))

is-good : {s : Stand} {g : Bool} → s ≡ Done → g ≡ true → Good ≡ fed_by s g
is-good d e = rw (d, e) refl

is-bad : {s : Stand} {g : Bool} → s ≡ Done → g ≡ false → Bad ≡ fed_by s g
is-bad d e = rw (d, e) refl

pub returns-then-check : goal.returns-then-check
returns-then-check g c =
    let a = c.answer_input-ended in
    record {
      turns = a.result.turns;
      flow = a.result.flow;
      ran = a.ensures;
      fed = is-good (is-done a.result.flow.stand c.ne.ensures c.if-ne.false) (sym c.check.ensures ∙ c.if-check.true);
      wrote = a.ensures.all;
      left = a.ensures.left;
    }

pub returns-else-check : goal.returns-else-check
returns-else-check g c =
    let a = c.answer_input-ended in
    record {
      turns = a.result.turns;
      flow = a.result.flow;
      ran = a.ensures;
      fed = is-bad (is-done a.result.flow.stand c.ne.ensures c.if-ne.false) (sym c.check.ensures ∙ c.if-check.false);
      wrote = a.ensures.all;
      left = a.ensures.left;
    }
