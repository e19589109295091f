-- Rows that are handed out, written one after another. Assumes nothing.
use mathlib.Core.Path.{◌≡◌, refl, sym, ap, subst, ◌∙◌}
use mathlib.Core.Bool.{Bool, true, false, ◌&&◌, false≢true}
use mathlib.Core.List.{List, [], ◌++◌, append-nil, append_assoc}
use mathlib.Core.Logic.{by_cases}
use Prim.Native.Nat.{ℕ, ◌+◌, ◌-◌, ◌≤◌, ◌<◌, ◌^◌}
use native.Mathlib.Decide.{dec_lt}
use native.Mathlib.Omega.{arith}
use borrow.Author.Tests.{le-ltb, lt-ltb, le-leb, lt-leb}
use lib.Dec.{leb, ltb}
use lib.ListN.{length}
use Rattle.std.proofs.Common.{Option, Some, None}
use Rattle.meaning.specs.Rows.{most_opens, Decided}
use Rattle.rows.specs.Stored.{Tidy, row_of}
use Rattle.rows.proofs.Padded.{stored⇒tidy, stored⇒row}
use Rattle.area.specs.Layout.{most_rows}
use Rattle.area.specs.State.{Entry, entry, state_of}
use Rattle.area.proofs.RowLaws.{GoodEntry, row-good}
use Rattle.area.proofs.Bytes.{good-state}
use Rattle.table.specs.Table.{rows_in, nth}
use Rattle.std.specs.Borrow.{Bor}
use Rattle.walker.specs.Walk.{walked, given, handed, next_number, Walkable, moved}
use Rattle.walker.specs.declared.Walker.{Walker}
use Rattle.walker.specs.declared.Handed.{Handed}
use Rattle.walker.proofs.WalkLaws.{walked-good, walked-few, row-handed, some-handed, goes_on}
use Rattle.text.specs.Write.{Wrote}
use Rattle.text.proofs.WriteLaws.{wrote_then, wrote-length}
use Rattle.answers.specs.Texts.{most_text, answer_text, row_text}
use Rattle.answers.specs.Show.{shows_on, row_after, row_text_at, row_left, Shows, stops, shows, RowsShown, AnswerShown}
use Rattle.answers.specs.declared.show.Shown.{Shown}
use Rattle.answers.proofs.Texts.{length-row, length-answer}

pub both : (a b : Bool) → (a && b) ≡ true → (a ≡ true) × (b ≡ true)
both true true e = (refl, refl)
both true false e = absurd (false≢true e)
both false b e = absurd (false≢true e)

pub no-more-rows : (room i : ℕ) → most_rows ≤ i → shows_on room i ≡ false
unfolding shows_on
no-more-rows room i h = rw (le-ltb i most_rows h) (go (leb most_text room))
  where
    go : (t : Bool) → (t && false) ≡ false
    go true = refl
    go false = refl

pub no-room : (room i : ℕ) → room < most_text → shows_on room i ≡ false
unfolding shows_on
no-room room i h = rw (lt-leb most_text room h) refl

-- ---- what is handed out

module _ (l : List ℕ) (i : ℕ) (h : Handed) (w : Walkable l i) (e : handed l i ≡ Some h) where
  there : i < length (walked l)
  there = some-handed l i h e

  abbrev held : Entry
  held = nth i (walked l)

  held-good : GoodEntry (state_of l).roles 0 held
  held-good =
      let good = w (let few = walked-few l in let k = there in omega arith) in
      rw (walked-good l good.good) (row-good (state_of l).roles 0 (rows_in l) (good-state l good.good).good-rows i (rw (walked-good l good.good) at there))

  -- it is the row of that number
  is-given : h ≡ given held
  is-given = let q = sym e ∙ row-handed l i there in cc

  pub handed-entry : entry h.permission (row_of h.row) ≡ held
  handed-entry = ap (λ (x : Handed). entry x.permission (row_of x.row)) is-given ∙ ap (entry held.permission) (stored⇒row _ held.row refl)

  pub handed-tidy : Tidy most_opens h.row.opens
  handed-tidy = stored⇒tidy most_opens _ held.row.opens (ap (λ (x : Handed). x.row.opens) is-given) held-good.good-row.few

  pub handed-short : length (row_text (entry h.permission (row_of h.row))) ≤ most_text
  handed-short = let g = held-good in rw handed-entry (length-row held (let v = g.valid in omega arith) g.good-row.few)

  pub handed-text : row_text (entry h.permission (row_of h.row)) ≡ row_text_at l i
  handed-text = ap row_text handed-entry ∙ sym (rw (lt-ltb i (length (walked l)) there) refl)

  pub handed-after : row_after l i ≡ i + 1
  handed-after = rw (lt-ltb i (length (walked l)) there) refl

  pub handed-shows : {room : ℕ} → most_text ≤ room → shows_on room i ≡ true
  unfolding shows_on
  handed-shows {room} m = rw (le-leb most_text room m, lt-ltb i most_rows (let few = walked-few l in let k = there in omega arith)) refl

-- ---- rows one after another

-- from the walker w₀ on, with the buffer d₀ written up to at₀, it has come to the walker w and the buffer d, written up to
-- `at`: what is shown from there on, is shown in all
pub record Partly (w₀ : Walker) (at₀ : ℕ) (d₀ : List ℕ) (w : Walker) (at : ℕ) (d : List ℕ) : Type 0 where
  pub text : List ℕ
  pub area : w.area ≡ w₀.area
  pub walkable : Walkable w₀.area.now w.next
  pub wrote : Wrote d₀ at₀ text d at
  pub inside : at ≤ length d₀
  pub goes : (j : Option ℕ) (t : List ℕ) → Shows w₀.area.now (length d₀ - at) w.next j t → Shows w₀.area.now (length d₀ - at₀) w₀.next j (text ++ t)

module _ {w₀ : Walker} {at₀ : ℕ} {d₀ : List ℕ} {w : Walker} {at : ℕ} {d : List ℕ} (p : Partly w₀ at₀ d₀ w at d) where
  abbrev l : List ℕ
  l = w₀.area.now

  abbrev i : ℕ
  i = w.next

  pub partly-length : length d ≡ length d₀
  partly-length = wrote-length p.wrote

  at-row : handed w.area.now i ≡ handed l i
  at-row = ap (λ (a : Bor (List ℕ)). handed a.now i) p.area

  -- no more rows are shown
  ends : {j : Option ℕ} → Shows l (length d₀ - at) i j [] → RowsShown l w₀.next at₀ d₀ (record { row = j; written = at }) d
  ends {j} s = record {
    text = p.text;
    shows = subst (Shows l (length d₀ - at₀) w₀.next j) (append-nil p.text) (p.goes j [] s);
    wrote = p.wrote;
    inside = p.inside;
  }

  -- there is no room
  pub partly-full : length d - at < most_text → {j : Option ℕ} → j ≡ row_left i → RowsShown l w₀.next at₀ d₀ (record { row = j; written = at }) d
  partly-full h e = ends (rw e (stops (no-room (length d₀ - at) i (let n = partly-length in omega arith))))

  -- there is no row
  pub partly-none : most_text ≤ length d - at → None ≡ handed w.area.now i → RowsShown l w₀.next at₀ d₀ (record { row = None; written = at }) d
  unfolding shows_on
  partly-none m e = ends (by_cases (dec_lt i most_rows) one-more none-left)
    where
      room : ℕ
      room = length d₀ - at

      past : length (walked l) ≤ i
      past = by_cases (dec_lt i (length (walked l))) (λ k. let q = e ∙ at-row ∙ row-handed l i k in absurd cc) (λ k. omega arith)

      one-more : i < most_rows → Shows l room i None []
      one-more k =
          let on : shows_on room i ≡ true = rw (le-leb most_text room (let n = partly-length in omega arith), lt-ltb i most_rows k) refl in
          let off : ltb i (length (walked l)) ≡ false = le-ltb i (length (walked l)) past in
          let text : row_text_at l i ≡ [] = rw off refl in
          let after : row_after l i ≡ most_rows = rw off refl in
          subst (λ (t : List ℕ). Shows l room i None (t ++ [])) text (shows on (rw after (stops (no-more-rows _ most_rows (omega arith)))))

      none-left : ¬ (i < most_rows) → Shows l room i None []
      none-left k = subst (λ (j : Option ℕ). Shows l room i j []) (rw (le-ltb i most_rows (omega arith)) refl) (stops (no-more-rows room i (omega arith)))

  module _ (m : most_text ≤ length d - at) {h : Handed} (e : Some h ≡ handed w.area.now i) where
    is-row : handed l i ≡ Some h
    is-row = sym (e ∙ at-row)

    short : length (row_text (entry h.permission (row_of h.row))) ≤ most_text
    short = handed-short l i h p.walkable is-row

    pub partly-writable : Tidy most_opens h.row.opens × (at + length (row_text (entry h.permission (row_of h.row))) ≤ length d)
    partly-writable = (handed-tidy l i h p.walkable is-row, let s = short in omega arith)

    pub partly-next : {d' : List ℕ} {z : ℕ} {v : Walker} → v ≡ moved w → Wrote d at (row_text (entry h.permission (row_of h.row))) d' z → Partly w₀ at₀ d₀ v z d'
    partly-next {d'} {z} {v} o c = record {
      text = p.text ++ row_text_at l i;
      area = ap (λ (x : Walker). x.area) o ∙ p.area;
      walkable = λ k. p.walkable (omega (arith, moves));
      wrote = wrote_then p.wrote wrote;
      inside = let s = short in let n = c.next in let k = partly-length in omega arith;
      goes = λ j t a.
          let left : length d₀ - z ≡ length d₀ - at - length (row_text_at l i) = let n = wrote.next in omega arith in
          let after : v.next ≡ row_after l i = moves ∙ sym (handed-after l i h p.walkable is-row) in
          subst (λ (x : List ℕ). Shows l (length d₀ - at₀) w₀.next j x) (sym (append_assoc p.text (row_text_at l i) t))
          (p.goes j (row_text_at l i ++ t) (shows (handed-shows l i h p.walkable is-row (let n = partly-length in omega arith)) (subst (λ (n : ℕ). Shows l n (row_after l i) j t) left (subst (λ (k : ℕ). Shows l (length d₀ - z) k j t) after a))));
    }
      where
        wrote : Wrote d at (row_text_at l i) d' z
        wrote = rw (← handed-text l i h p.walkable is-row) c

        moves : v.next ≡ i + 1
        moves = ap (λ (x : Walker). x.next) o ∙ ap (λ (a : Bor (List ℕ)). next_number a.now i) p.area ∙ goes_on l i (some-handed l i h is-row)

-- what a page is left with, its buffer is
pub rows-left : {l : List ℕ} {i at : ℕ} {d e f : List ℕ} {r : Shown} → RowsShown l i at d r e → f ≡ e → RowsShown l i at d r f
rows-left a same = rw same a

-- ---- an answer, and the rows after it

module _ (k : ℕ) (a : Decided) (at : ℕ) (d : List ℕ) (k-fits : k < 2 ^ 64) (a-fits : a.answer < 2 ^ 32) (room : at + most_text ≤ length d) where
  pub answer-fits : at + length (answer_text k a) ≤ length d
  answer-fits = omega (arith, length-answer k a k-fits a-fits, room)

  pub answer-inside : {e : List ℕ} {z : ℕ} → Wrote d at (answer_text k a) e z → z ≤ length e
  answer-inside w = omega (arith, answer-fits, w.next, wrote-length w)

pub answer-shown : (k : ℕ) (a : Decided) (l : List ℕ) (i at : ℕ) (d : List ℕ) {e f : List ℕ} {z : ℕ} {r : Shown} → Wrote d at (answer_text k a) e z → RowsShown l i z e r f → AnswerShown k a l i at d r f
answer-shown k a l i at d {e} {z = z} {r} w c =
    let left : length e - z ≡ length d - (at + length (answer_text k a)) = let n = wrote-length w in let m = w.next in omega arith in record {
      text = c.text;
      shows = subst (λ (n : ℕ). Shows l n i r.row c.text) left c.shows;
      wrote = wrote_then w c.wrote;
      inside = let n = wrote-length w in let h = c.inside in omega arith;
    }
