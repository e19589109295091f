-- Rows shown one after another, from a number on, as long as there may be one and there is room for a text.
--     shows_on room i            row i is asked for
--     row_after l i, row_text_at l i    the number after i, and the text of row i; of a number that no row has, a number for none, and no text
--     row_left i                 the row to go on with at number i: none where no row has that number
--     Shows l room i j t         from row i on, in so much room, rows of the area l are shown up to j, and t is their text
--     RowsShown                  rows are shown from number i on. d is the buffer before, and e afterwards
--     AnswerShown k a l i ..     the answer a to line k is written, and rows from number i on
--     OnlyAnswer k a ..          the answer a to line k is written, and no rows are to be shown
use Rattle.std.specs.Prelude.{◌≡◌, Bool, true, false, cond, ◌&&◌, List, [], ◌++◌, ℕ, ◌+◌, ◌-◌, ◌≤◌, ltb, leb, length, Option, None}
use Rattle.std.specs.Bool.{then_some}
use Rattle.meaning.specs.Rows.{Decided}
use Rattle.area.specs.Layout.{most_rows}
use Rattle.table.specs.Table.{nth}
use Rattle.walker.specs.Walk.{walked}
use Rattle.text.specs.Write.{Wrote}
use Rattle.answers.specs.Texts.{most_text, answer_text, row_text}
use Rattle.answers.specs.declared.show.Shown.{Shown}

unfoldable pub shows_on : ℕ → ℕ → Bool
shows_on room i = leb most_text room && ltb i most_rows

abbrev pub row_after : List ℕ → ℕ → ℕ
row_after l i = cond (ltb i (length (walked l))) (i + 1) most_rows

abbrev pub row_text_at : List ℕ → ℕ → List ℕ
row_text_at l i = cond (ltb i (length (walked l))) (row_text (nth i (walked l))) []

abbrev pub row_left : ℕ → Option ℕ
row_left i = then_some (ltb i most_rows) i

pub data Shows (l : List ℕ) : ℕ → ℕ → Option ℕ → List ℕ → Type 0 where
  stops : {room i : ℕ} → shows_on room i ≡ false → Shows l room i (row_left i) []
  shows : {room i : ℕ} {j : Option ℕ} {t : List ℕ} → shows_on room i ≡ true → Shows l (room - length (row_text_at l i)) (row_after l i) j t → Shows l room i j (row_text_at l i ++ t)

pub record RowsShown (l : List ℕ) (i at : ℕ) (d : List ℕ) (r : Shown) (e : List ℕ) : Type 0 where
  pub text : List ℕ
  pub shows : Shows l (length d - at) i r.row text
  pub wrote : Wrote d at text e r.written
  pub inside : r.written ≤ length d

pub record AnswerShown (k : ℕ) (a : Decided) (l : List ℕ) (i at : ℕ) (d : List ℕ) (r : Shown) (e : List ℕ) : Type 0 where
  pub text : List ℕ
  pub shows : Shows l (length d - (at + length (answer_text k a))) i r.row text
  pub wrote : Wrote d at (answer_text k a ++ text) e r.written
  pub inside : r.written ≤ length d

pub record OnlyAnswer (k : ℕ) (a : Decided) (at : ℕ) (d : List ℕ) (r : Shown) (e : List ℕ) : Type 0 where
  pub row : r.row ≡ None
  pub wrote : Wrote d at (answer_text k a) e r.written
  pub inside : r.written ≤ length d
