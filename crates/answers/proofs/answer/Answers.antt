-- `answers::answer` meets its contract. Assumes nothing.
use mathlib.Core.Path.{◌≡◌, refl, ◌∙◌, subst⁻¹}
use Rattle.calls.specs.Answers.{decided_of}
use Rattle.calls.proofs.Numbers.{decided-number}
use Rattle.requests.specs.declared.Request.{Request}
use Rattle.answers.specs.Answers.{answer_of, first_shown, Answers}
use Rattle.answers.specs.Texts.{with_role}
use Rattle.answers.proofs.AnswerLaws.{only-answers, told, call-answers}
use Rattle.answers.proofs.answer.Goals as goal

pub returns-in-Open : goal.returns-in-Open
unfolding answer_of first_shown
returns-in-Open c =
    let w = c.write_only in
    let k = c.open-opened in
    subst⁻¹ (λ (x : Request). Answers c.args.area.now x c.args.line c.args.at c.args.out.now w.result k.new.a w.new.out) c.in-Open.is
    (call-answers c.args.area.now _ c.args.line c.args.at c.args.out.now _ refl refl c.number.ensures k.ensures w.ensures)

pub returns-in-Told : goal.returns-in-Told
unfolding answer_of first_shown
returns-in-Told c =
    let w = c.write_only-in-Told in
    let k = c.tell-kept in
    subst⁻¹ (λ (x : Request). Answers c.args.area.now x c.args.line c.args.at c.args.out.now w.result k.new.a w.new.out) c.in-Told.is
    (call-answers c.args.area.now _ c.args.line c.args.at c.args.out.now _ refl refl c.number-in-Told.ensures (told c.args.area.now c.in-Told.e.permission c.in-Told.e.happening c.in-Told.e.state _ k.new.a k.ensures) w.ensures)

pub returns-in-Forget : goal.returns-in-Forget
unfolding answer_of first_shown
returns-in-Forget c =
    let w = c.write_only-in-Forget in
    let k = c.forget-forgotten in
    subst⁻¹ (λ (x : Request). Answers c.args.area.now x c.args.line c.args.at c.args.out.now w.result k.new.a w.new.out) c.in-Forget.is
    (call-answers c.args.area.now _ c.args.line c.args.at c.args.out.now _ refl refl c.number-in-Forget.ensures k.ensures w.ensures)

pub returns-in-Decide : goal.returns-in-Decide
unfolding answer_of first_shown
returns-in-Decide c =
    let w = c.write_only-in-Decide in
    let k = c.decide-decided in
    let l = c.args.area.now in
    let number : c.number-in-Decide.result ≡ (decided_of k.result).answer = c.number-in-Decide.ensures ∙ decided-number k.result in
    let same : with_role c.number-in-Decide.result c.role.result ≡ decided_of k.result = λ i. record { answer = number i; role = c.role.ensures i } in
    subst⁻¹ (λ (x : Request). Answers l x c.args.line c.args.at c.args.out.now w.result l w.new.out) c.in-Decide.is
    (only-answers l _ c.args.line c.args.at c.args.out.now refl (same ∙ k.ensures) refl w.ensures)

pub returns-in-Show : goal.returns-in-Show
unfolding answer_of first_shown
returns-in-Show c =
    let w = c.from_start in
    let l = c.args.area.now in
    subst⁻¹ (λ (x : Request). Answers l x c.args.line c.args.at c.args.out.now w.result l w.new.out) c.in-Show.is (record { area = refl; written = w.ensures })

pub returns-in-Unreadable : goal.returns-in-Unreadable
unfolding answer_of first_shown
returns-in-Unreadable c =
    let w = c.write_only-in-Unreadable in
    let l = c.args.area.now in
    subst⁻¹ (λ (x : Request). Answers l x c.args.line c.args.at c.args.out.now w.result l w.new.out) c.in-Unreadable.is
    (call-answers l _ c.args.line c.args.at c.args.out.now _ refl refl refl (record { answer = refl; area = refl }) w.ensures)
