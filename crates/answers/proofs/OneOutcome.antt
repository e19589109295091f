-- The contracts that speak of rows shown allow one outcome. Assumes nothing.
use mathlib.Core.Path.{◌≡◌, refl, sym, ap, ◌∙◌}
use mathlib.Core.Bool.{true≢false}
use mathlib.Core.List.{List, ◌++◌}
use Prim.Native.Nat.{ℕ, ◌+◌}
use lib.ListN.{length}
use lib.Seq.{sets}
use Rattle.std.proofs.Common.{Option}
use Rattle.meaning.specs.Rows.{Decided}
use Rattle.text.specs.Write.{Wrote}
use Rattle.answers.specs.Texts.{answer_text}
use Rattle.answers.specs.Show.{row_text_at, Shows, stops, shows, RowsShown, AnswerShown}
use Rattle.answers.specs.declared.show.Shown.{Shown}

shows-one : {l : List ℕ} {room i : ℕ} {j k : Option ℕ} {t u : List ℕ} → Shows l room i j t → Shows l room i k u → (j ≡ k) × (t ≡ u)
shows-one (stops e) (stops f) = (refl, refl)
shows-one (stops e) (shows f b) = absurd (true≢false (sym f ∙ e))
shows-one (shows e a) (stops f) = absurd (true≢false (sym e ∙ f))
shows-one {l} {i = i} (shows e a) (shows f b) = let s = shows-one a b in (s.0, ap (λ (x : List ℕ). row_text_at l i ++ x) s.1)

-- the same text, written from the same place of the same buffer
module _ {d : List ℕ} {at : ℕ} {t u e f : List ℕ} {r s : Shown} (same : t ≡ u) (a : Wrote d at t e r.written) (b : Wrote d at u f s.written) where
  written_one : r.row ≡ s.row → (r ≡ s) × (e ≡ f)
  written_one q = (λ j. record { row = q j; written = (a.next ∙ ap (λ (x : List ℕ). at + length x) same ∙ sym b.next) j }, a.bytes ∙ ap (sets d at) same ∙ sym b.bytes)

pub rows-one : {l : List ℕ} {i at : ℕ} {d e f : List ℕ} {r s : Shown} → RowsShown l i at d r e → RowsShown l i at d s f → (r ≡ s) × (e ≡ f)
rows-one a b = let one = shows-one a.shows b.shows in written_one one.1 a.wrote b.wrote one.0

pub answered-one : {k : ℕ} {c : Decided} {l : List ℕ} {i at : ℕ} {d e f : List ℕ} {r s : Shown} → AnswerShown k c l i at d r e → AnswerShown k c l i at d s f → (r ≡ s) × (e ≡ f)
answered-one {k} {c} a b = let one = shows-one a.shows b.shows in written_one (ap (λ (x : List ℕ). answer_text k c ++ x) one.1) a.wrote b.wrote one.0
