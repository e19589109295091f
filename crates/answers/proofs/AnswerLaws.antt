-- The answer of a call as the answer to its request. Assumes nothing.
use mathlib.Core.Path.{◌≡◌, refl, sym, ap, subst⁻¹, ◌∙◌}
use mathlib.Core.List.{List, [], append-nil}
use Prim.Native.Nat.{ℕ, ◌+◌, ◌-◌}
use native.Mathlib.Omega.{arith}
use lib.ListN.{length}
use Rattle.std.proofs.Common.{Option}
use Rattle.area.specs.Layout.{most_rows}
use Rattle.meaning.specs.Rows.{Decided, bare}
use Rattle.meaning.specs.declared.Happening.{Happening}
use Rattle.meaning.specs.declared.Happening.TheVariants.{Allow, Deny, Given, Withdrawn}
use Rattle.meaning.specs.Kinds.{happened, Told}
use Rattle.std.specs.Prelude.{Ok}
use Rattle.calls.specs.Calls.{Out, event_of}
use Rattle.calls.specs.Histories.{out_of, call_for}
use Rattle.calls.specs.Answers.{Gives}
use Rattle.requests.specs.declared.Request.{Request}
use Rattle.answers.specs.Answers.{Answered, plain, answer_of, first_shown, Answers}
use Rattle.answers.specs.Texts.{answer_text}
use Rattle.answers.specs.Show.{Shows, stops, AnswerShown, OnlyAnswer}
use Rattle.answers.specs.declared.show.Shown.{Shown}
use Rattle.answers.proofs.ShowLaws.{no-more-rows}

pub only-shown : (k : ℕ) (a : Decided) (l : List ℕ) (at : ℕ) (d : List ℕ) {r : Shown} {e : List ℕ} → OnlyAnswer k a at d r e → AnswerShown k a l most_rows at d r e
only-shown k a l at d o = record {
  text = [];
  shows = subst⁻¹ (λ (j : Option ℕ). Shows l (length d - (at + length (answer_text k a))) most_rows j []) o.row (stops (no-more-rows (length d - (at + length (answer_text k a))) most_rows (omega arith)));
  wrote = rw (append-nil (answer_text k a)) o.wrote;
  inside = o.inside;
}

-- of a request after which no rows are shown
pub only-answers : (l : List ℕ) (q : Request) (k at : ℕ) (d : List ℕ) {c : Decided} {r : Shown} {l' e : List ℕ}
    → first_shown l q ≡ most_rows → c ≡ (answer_of l q).answer → l' ≡ (answer_of l q).area → OnlyAnswer k c at d r e → Answers l q k at d r l' e
only-answers l q k at d f a m w = record {
  area = m;
  written = rw (f, ← a) (only-shown k _ (answer_of l q).area at d w);
}

-- what happened is an event of the call by which it comes in, whatever numbers tell it
pub told : (l : List ℕ) (p : ℕ) (h : Happening) (g a : ℕ) (l' : List ℕ) → ((k x : ℕ) → Told k x (Ok h) → Gives (event_of l p k x g) a l') → Gives (out_of (call_for p h g) l) a l'
unfolding out_of call_for happened
told l p (Deny s) g a l' f = f 0 s.bits (omega arith, refl)
told l p (Allow s) g a l' f = f 1 s.bits (omega arith, refl)
told l p (Withdrawn r) g a l' f = f 2 r (omega arith, refl)
told l p (Given r) g a l' f = f 3 r (omega arith, refl)

-- of a call that names no role
pub call-answers : (l : List ℕ) (q : Request) (k at : ℕ) (d : List ℕ) (o : Out) {a b : ℕ} {r : Shown} {l' e : List ℕ}
    → answer_of l q ≡ plain o → first_shown l q ≡ most_rows → b ≡ a → Gives o a l' → OnlyAnswer k (bare b) at d r e → Answers l q k at d r l' e
call-answers l q k at d o p f n g =
    only-answers l q k at d f (ap bare (n ∙ g.answer) ∙ sym (ap (λ (x : Answered). x.answer) p)) (g.area ∙ sym (ap (λ (x : Answered). x.area) p))
