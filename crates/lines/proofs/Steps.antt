-- Turns of the code, one after another: each goes on from where the one before came to, and they end. Assumes nothing.
use Rattle.std.proofs.Common.{◌≡◌, ℕ, suc, ◌+◌, ◌-◌, ◌*◌, ◌<◌, ◌≤◌, min, Option, Some, None, Bool, true, false, cond, ◌&&◌, ◌||◌, ltb, leb, List, [], ◌++◌, length, drop, sym, refl, ap, ◌∙◌, subst, true≢false, append-nil, arith, length-drop, ltb-false, ltb-true, le-ltb, lt-ltb, le-leb, leb-true}
use mathlib.Core.Path.{subst⁻¹}
use mathlib.Core.Logic.{by_cases}
use native.Mathlib.Decide.{dec_lt}
use borrow.Author.Tests.{lt-leb}
use Rattle.area.specs.Layout.{most_rows, good_bytes}
use Rattle.walker.specs.Walk.{walked, go_on_at}
use Rattle.walker.proofs.WalkLaws.{good-or-bad, walked-bad, go_on_at-good, go_on_at-bad}
use Rattle.text.specs.Write.{Wrote}
use Rattle.text.proofs.WriteLaws.{wrote_then, wrote-length, wrote_nothing}
use Rattle.text.specs.Lines.{before_lf}
use Rattle.answers.specs.Texts.{most_text}
use Rattle.answers.specs.Show.{row_left}
use Rattle.answers.proofs.ShowLaws.{both}
use Rattle.lines.specs.Run.{Place, row_number, before, at_row, place_of, showing, row_there, row_shown, shown_text, line_ends, asked, answered, kept, line_read, turned, turn_text, goes_on, Advances, stops, turns, Takes, none_more, run_at, row_to_show, placed, Settled, Comes, RestShown, Advanced}
use Rattle.lines.specs.declared.Run.{Run}
use Rattle.lines.specs.declared.Progress.{Progress}
use Rattle.lines.proofs.Rows.{takes-then, takes-advances, shows-named, shows-takes, shows-settled}

-- ---- the code's test

ltb-rest : (i : ℕ) (bs : List ℕ) → ltb i (length bs) ≡ ltb 0 (length (drop i bs))
ltb-rest i bs = go (ltb i (length bs)) refl
  where
    go : (t : Bool) → ltb i (length bs) ≡ t → t ≡ ltb 0 (length (drop i bs))
    go true e = sym (lt-ltb 0 (length (drop i bs)) (let h = ltb-true i (length bs) e in omega (arith, length-drop i bs)))
    go false e = sym (le-ltb 0 (length (drop i bs)) (let h = ltb-false i (length bs) e in omega (arith, length-drop i bs)))

-- where nothing is left to be shown, or there is no room
pub test-is : (p : Progress) (l bs : List ℕ) (room : ℕ) → Settled room p → (leb most_text (room - p.written) && ltb p.read (length bs)) ≡ goes_on (room - p.written) (placed p l bs)
unfolding goes_on
test-is p l bs room settled = go (leb most_text (room - p.written)) refl
  where
    go : (t : Bool) → leb most_text (room - p.written) ≡ t → (t && ltb p.read (length bs)) ≡ (t && (ltb (row_number p.run.row) most_rows || ltb 0 (length (drop p.read bs))))
    go true e = rw (le-ltb (row_number p.run.row) most_rows (settled (leb-true most_text (room - p.written) e))) (ltb-rest p.read bs)
    go false e = refl

either : (a b : Bool) → (a || b) ≡ true → a ≡ false → b ≡ true
either false b e f = e
either true b e f = absurd (true≢false f)

has-input : (room : ℕ) (m : Place) → goes_on room m ≡ true → showing m ≡ false → 0 < length m.input
unfolding goes_on
has-input room m g e = ltb-true 0 (length m.input) (either (showing m) (ltb 0 (length m.input)) (both (leb most_text room) (showing m || ltb 0 (length m.input)) g).1 e)

-- ---- turns end

pub effort : Place → ℕ
effort m = length m.input * 129 + (most_rows - m.row)

row-less : (m : Place) → m.row < most_rows → effort (row_shown m) < effort m
unfolding effort row_shown
row-less m h = go (row_there m)
  where
    go : (t : Bool) → length m.input * 129 + (most_rows - cond t (m.row + 1) most_rows) < length m.input * 129 + (most_rows - m.row)
    go true = omega arith
    go false = omega arith

line-less : (m : Place) → most_rows ≤ m.row → 0 < length m.input → effort (line_read m) < effort m
unfolding effort line_read
line-less m h k = go (line_ends m)
  where
    go : (t : Bool) → length (cond t (answered m (asked m)) (kept m)).input * 129 + (most_rows - (cond t (answered m (asked m)) (kept m)).row) < length m.input * 129 + (most_rows - m.row)
    go true = omega (arith, length-drop (suc (before_lf m.input)) m.input)
    go false = omega arith

pub turn-less : (room : ℕ) (m : Place) → goes_on room m ≡ true → effort (turned m) < effort m
unfolding turned
turn-less room m g = go (showing m) refl
  where
    go : (t : Bool) → showing m ≡ t → effort (cond t (row_shown m) (line_read m)) < effort m
    go true e = row-less m (ltb-true m.row most_rows e)
    go false e = line-less m (ltb-false m.row most_rows e) (has-input room m g e)

-- ---- lines one after another

-- from p₀ on the area l₀, in the piece bs, into the buffer d₀, the code has come to p
pub record Midway (l₀ bs d₀ : List ℕ) (p₀ : Progress) (l d : List ℕ) (p : Progress) : Type 0 where
  pub text : List ℕ
  pub read : p.read ≤ length bs
  pub wrote : Wrote d₀ p₀.written text d p.written
  pub inside : p.written ≤ length d₀
  pub settled : Settled (length d₀) p
  pub row : p.run.row ≡ row_left (row_number p.run.row)
  pub takes : Takes (length d₀ - p₀.written) (placed p₀ l₀ bs) (placed p l bs) text

-- the code's test
abbrev pub goes_on_lem : ℕ → List ℕ → Progress → Bool
goes_on_lem room bs p = leb most_text (room - p.written) && ltb p.read (length bs)

module _ (l₀ bs d₀ : List ℕ) (p₀ : Progress) (l d : List ℕ) (p : Progress) (m : Midway l₀ bs d₀ p₀ l d p) where
  pub midway-next : (l' d' : List ℕ) (r : Progress) → Comes p l bs d r l' d' → Midway l₀ bs d₀ p₀ l' d' r
  midway-next l' d' r c =
      let long = wrote-length m.wrote in
      let room : length d - p.written ≡ length d₀ - p₀.written - length m.text = let n = m.wrote.next in omega arith in record {
        text = m.text ++ c.text;
        read = c.read;
        wrote = wrote_then m.wrote c.wrote;
        inside = rw (← long) c.inside;
        settled = λ h. c.settled (omega arith);
        row = c.row;
        takes = takes-then m.takes (subst (λ (n : ℕ). Takes n (placed p l bs) (placed r l' bs) c.text) room c.takes);
      }

-- ---- before the first turn

pub no_room : (r : Run) (l bs d : List ℕ) → length d < most_text → Advanced r l bs d (before r) l d
unfolding goes_on
no_room r l bs d h = let stopped : goes_on (length d) (place_of r l bs) ≡ false = rw (lt-leb most_text (length d) h) refl in record {
  text = [];
  read = omega arith;
  wrote = record { bytes = refl; next = refl };
  inside = omega arith;
  row = rw (lt-ltb (length d) most_text h) refl;
  goes = stops stopped;
}

-- a bad area shows no row in its one turn
module _ (room : ℕ) (h : most_text ≤ room) (k : Place) (t : List ℕ) where
  skipped : (m : Place) → m.row < most_rows → good_bytes m.area ≡ false → Advances room (at_row m most_rows) k t → Advances room m k t
  unfolding goes_on turned turn_text row_shown shown_text
  skipped m i e a =
      let no : ltb m.row (length (walked m.area)) ≡ false = le-ltb m.row (length (walked m.area)) (let z = walked-bad m.area e in omega arith) in
      let goes : goes_on room m ≡ true = rw (le-leb most_text room h, lt-ltb m.row most_rows i) refl in
      let text : turn_text m ≡ [] = rw (lt-ltb m.row most_rows i, no) refl in
      let place : turned m ≡ at_row m most_rows = rw (lt-ltb m.row most_rows i, no) refl in
      let same : room - length (turn_text m) ≡ room = rw text (omega arith) in
      subst (λ (x : List ℕ). Advances room m k (x ++ t)) text
      (turns goes (subst⁻¹ (λ (n : ℕ). Advances n (turned m) k t) same (subst⁻¹ (λ (x : Place). Advances room x k t) place a)))

  module _ (m : Place) where
    left-goes : (i : ℕ) → Advances room (at_row m (min (go_on_at m.area i) most_rows)) k t → Advances room (at_row m (min i most_rows)) k t
    left-goes i a = good-or-bad m.area
        (λ g. subst (λ (j : ℕ). Advances room (at_row m (min j most_rows)) k t) (go_on_at-good m.area i g) a)
        (λ b. let none = subst (λ (j : ℕ). Advances room (at_row m (min j most_rows)) k t) (go_on_at-bad m.area i b) a in by_cases (dec_lt i most_rows)
        (λ below. skipped (at_row m (min i most_rows)) (omega arith) b none)
        (λ above. let past : most_rows ≡ min i most_rows = omega arith in subst (λ (j : ℕ). Advances room (at_row m j) k t) past none))

    row_to_show-goes : (o : Option ℕ) → Advances room (at_row m (min (row_to_show m.area o) most_rows)) k t → Advances room (at_row m (row_number o)) k t
    row_to_show-goes None a = a
    row_to_show-goes (Some i) a = left-goes i a

-- the rows left from before come first
module _ (w : Run) (l bs d : List ℕ) (p₀ : Progress) (e₀ : List ℕ) (c : RestShown w l d p₀ e₀) where
  long₀ : length e₀ ≡ length d
  long₀ = wrote-length c.rows.wrote

  pub midway_start : Midway l bs e₀ p₀ l e₀ p₀
  midway_start = record {
    text = [];
    read = rw c.read (omega arith);
    wrote = wrote_nothing e₀ p₀.written;
    inside = rw long₀ c.rows.inside;
    settled = λ k. shows-settled c.rows.shows (let n = c.rows.wrote.next in let m = long₀ in omega arith);
    row = shows-named c.rows.shows;
    takes = none_more;
  }

  module _ (h : most_text ≤ length d) where
    rest_goes : (k : Place) (t : List ℕ) → Advances (length e₀ - p₀.written) (placed p₀ l bs) k t → Advances (length d) (place_of w l bs) k (c.rows.text ++ t)
    rest_goes k t a =
        let text = c.rows.text in
        let row = p₀.run.row in
        let place : placed p₀ l bs ≡ place_of (run_at w row) l bs = ap (λ (x : Run). place_of x l (drop p₀.read bs)) c.run ∙ ap (λ (n : ℕ). place_of (run_at w row) l (drop n bs)) c.read in
        let left : length e₀ - p₀.written ≡ length d - 0 - length text = let n = c.rows.wrote.next in let m = long₀ in omega arith in
        let whole : length d - 0 ≡ length d = omega arith in
        row_to_show-goes (length d) h k (text ++ t) (place_of w l bs) w.row (subst (λ (n : ℕ). Advances n (at_row (place_of w l bs) (min (row_to_show l w.row) most_rows)) k (text ++ t)) whole
        (takes-advances (shows-takes (place_of w l bs) c.rows.shows) (subst (λ (n : ℕ). Advances n (place_of (run_at w row) l bs) k t) left (subst (λ (x : Place). Advances (length e₀ - p₀.written) x k t) place a))))

    pub midway_end : (l' e : List ℕ) (p : Progress) → Midway l bs e₀ p₀ l' e p → goes_on_lem (length e₀) bs p ≡ false → Advanced w l bs d p l' e
    midway_end l' e p m g =
        let stopped : goes_on (length e₀ - p₀.written - length m.text) (placed p l' bs) ≡ false =
        ap (λ (n : ℕ). goes_on n (placed p l' bs)) (let z : length e₀ - p₀.written - length m.text ≡ length e₀ - p.written = let n = m.wrote.next in omega arith in z) ∙ sym (test-is p l' bs (length e₀) m.settled) ∙ g in record {
          text = c.rows.text ++ m.text;
          read = m.read;
          wrote = wrote_then c.rows.wrote m.wrote;
          inside = rw (← long₀) m.inside;
          row = rw (le-ltb (length d) most_text h) m.row;
          goes = rest_goes (placed p l' bs) m.text (subst (Advances (length e₀ - p₀.written) (placed p₀ l bs) (placed p l' bs)) (append-nil m.text) (takes-advances m.takes (stops stopped)));
        }
