-- `answers::show::from_start` meets its contract. Assumes nothing.
use mathlib.Core.Path.{◌≡◌, sym, ◌∙◌}
use Rattle.std.proofs.Common.{rules, ◌<◌, ◌^◌}
use Rattle.meaning.specs.Rows.{bare}
use Rattle.walker.specs.Walk.{first_row, start_answer}
use Rattle.walker.proofs.WalkLaws.{first-walkable, first-bad, start-ok, start-err, answer-good, answer-bad}
use Rattle.answers.proofs.ShowLaws.{answer-fits, answer-inside, answer-shown}
use Rattle.answers.proofs.AnswerLaws.{only-shown}
use Rattle.answers.proofs.show.from_start.Goals as goal

pub write_answer-requires : goal.write_answer-requires
write_answer-requires c =
    let line : c.args.line < 2 ^ 64 = search rules in
    let answer : c.number.result < 2 ^ 32 = search rules in
    rw (c.new-page.ensures.bytes, c.new-page.ensures.start) (answer-fits c.args.line (bare c.number.result) c.args.at c.args.out.now line answer c.requires)

pub walk-requires : goal.walk-requires
walk-requires c =
    let line : c.args.line < 2 ^ 64 = search rules in
    let answer : c.number.result < 2 ^ 32 = search rules in (
      rw (start-ok c.args.area c.in-Ok.ensures).1 (first-walkable c.args.area.now),
      answer-inside c.args.line (bare c.number.result) c.args.at c.args.out.now line answer c.requires (search rules),
    )

pub returns-in-Ok : goal.returns-in-Ok
returns-in-Ok c =
    let l = c.args.area.now in
    let s = start-ok c.args.area c.in-Ok.ensures in
    let answer : c.number.result ≡ start_answer l = c.number.ensures ∙ sym (answer-good l s.0) in
    answer-shown c.args.line (bare (start_answer l)) l (first_row l) c.args.at c.args.out.now (rw (← answer) (search rules)) (rw s.1 at c.walk.ensures)

pub returns-in-Err : goal.returns-in-Err
returns-in-Err c =
    let l = c.args.area.now in
    let bad = start-err c.args.area c.in-Err.ensures in
    rw (first-bad l bad, answer-bad l bad) (only-shown c.args.line (bare 1) l c.args.at c.args.out.now (rw c.number-in-Err.ensures at c.write_only.ensures))
