-- Turns of the line program: each writes the next part of what is still to be written, whatever comes in behind it. Assumes nothing.
use Rattle.std.proofs.Common.{◌≡◌, ℕ, suc, ◌+◌, ◌-◌, ◌<◌, ◌≤◌, Bool, true, false, cond, List, [], ◌++◌, length, drop, sym, refl, ap, ◌∙◌, true≢false, append_assoc, add-one, arith, length-append, drop_of_length-le, drop-cons, ltb-false, ltb-true}
use Rattle.area.specs.Layout.{most_rows, good_bytes}
use Rattle.area.specs.State.{entry}
use Rattle.table.specs.Table.{nth}
use Rattle.meaning.specs.Rows.{blank}
use Rattle.walker.specs.Walk.{walked, first_row}
use Rattle.walker.proofs.WalkLaws.{walked-few, walked-bad, first_good, first-bad}
use Rattle.requests.specs.declared.Request.{Request}
use Rattle.requests.specs.declared.Request.TheVariants.{Open, Told, Decide, Forget, Show, Unreadable}
use Rattle.text.specs.Lines.{before_lf}
use Rattle.split.specs.Split.{none, held_all, lines_from}
use Rattle.answers.specs.Answers.{answer_of, first_shown}
use Rattle.answers.specs.Texts.{answer_text, row_text}
use Rattle.lines.specs.Written.{shown, rows_text, next_number, line_written, written}
use Rattle.lines.specs.Run.{Place, showing, row_there, row_shown, shown_text, line_ends, asked, answered, kept, line_read, line_text, turned, turn_text, goes_on, Advances, stops, turns}
use Rattle.split.proofs.SplitLaws.{lines-ended, lines-open}

-- what is still to be written from m on, if `more` comes in behind its input
unfoldable pub still_to : Place → List ℕ → List ℕ
still_to m more = rows_text (drop m.row (walked m.area)) ++ written m.number m.area (lines_from m.held (m.input ++ more))

no_rows : (i : ℕ) (l : List ℕ) → length (walked l) ≤ i → rows_text (drop i (walked l)) ≡ []
unfolding rows_text
no_rows i l h = rw (drop_of_length-le (walked l) {i = i} h) refl

past-rows : (i : ℕ) (l : List ℕ) → most_rows ≤ i → rows_text (drop i (walked l)) ≡ []
past-rows i l h = let few = walked-few l in no_rows i l (omega arith)

-- ---- a row shown

module _ (m : Place) where
  there : row_there m ≡ true → rows_text (drop m.row (walked m.area)) ≡ row_text (nth m.row (walked m.area)) ++ rows_text (drop (m.row + 1) (walked m.area))
  unfolding rows_text
  there e = rw (add-one, drop-cons (walked m.area) m.row (entry 0 blank) (ltb-true m.row (length (walked m.area)) e)) refl

  row-still : (more : List ℕ) → still_to m more ≡ shown_text m ++ still_to (row_shown m) more
  unfolding still_to shown_text row_shown
  row-still more = go (row_there m) refl
    where
      rest : List ℕ
      rest = written m.number m.area (lines_from m.held (m.input ++ more))

      go : (t : Bool) → row_there m ≡ t
          → rows_text (drop m.row (walked m.area)) ++ rest
          ≡ cond t (row_text (nth m.row (walked m.area))) [] ++ (rows_text (drop (cond t (m.row + 1) most_rows) (walked m.area)) ++ rest)
      go true e = ap (λ (x : List ℕ). x ++ rest) (there e) ∙ append_assoc (row_text (nth m.row (walked m.area))) (rows_text (drop (m.row + 1) (walked m.area))) rest
      go false e = ap (λ (x : List ℕ). x ++ rest) (no_rows m.row m.area (ltb-false m.row (length (walked m.area)) e) ∙ sym (past-rows most_rows m.area (omega arith)))

-- ---- a line read

-- the rows that follow an answer are those from the first on that is to be shown
shown-first : (l : List ℕ) (q : Request) → rows_text (shown l q) ≡ rows_text (drop (first_shown l q) (walked (answer_of l q).area))
unfolding shown first_shown answer_of rows_text
shown-first l (Open n g) = sym (past-rows most_rows _ (omega arith))
shown-first l (Told e) = sym (past-rows most_rows _ (omega arith))
shown-first l (Decide p s) = sym (past-rows most_rows _ (omega arith))
shown-first l (Forget p) = sym (past-rows most_rows _ (omega arith))
shown-first l Show = go (good_bytes l) refl
  where
    go : (t : Bool) → good_bytes l ≡ t → rows_text (walked l) ≡ rows_text (drop (first_row l) (walked l))
    go true e = rw (first_good l e) refl
    go false e = no_rows 0 l (let z = walked-bad l e in omega arith) ∙ sym (past-rows (first_row l) l (let f = first-bad l e in omega arith))
shown-first l Unreadable = sym (past-rows most_rows _ (omega arith))

module _ (m : Place) (more : List ℕ) (none-shown : most_rows ≤ m.row) where
  pub lines-only : still_to m more ≡ written m.number m.area (lines_from m.held (m.input ++ more))
  unfolding still_to
  lines-only = ap (λ (x : List ℕ). x ++ written m.number m.area (lines_from m.held (m.input ++ more))) (past-rows m.row m.area none-shown)

  ended : before_lf m.input < length m.input
      → written m.number m.area (lines_from m.held (m.input ++ more)) ≡ answer_text m.number (answer_of m.area (asked m)).answer ++ still_to (answered m (asked m)) more
  unfolding still_to written line_written
  ended h =
      let l = m.area in
      let q = asked m in
      let rest = written (next_number m.number) (answer_of l q).area (lines_from none (drop (suc (before_lf m.input)) m.input ++ more)) in
      ap (written m.number l) (lines-ended m.held m.input more h)
      ∙ append_assoc (answer_text m.number (answer_of l q).answer) (rows_text (shown l q)) rest
      ∙ ap (λ (x : List ℕ). answer_text m.number (answer_of l q).answer ++ (x ++ rest)) (shown-first l q)

  open-still : length m.input ≤ before_lf m.input → written m.number m.area (lines_from m.held (m.input ++ more)) ≡ still_to (kept m) more
  unfolding still_to
  open-still h =
      ap (written m.number m.area) (lines-open m.held m.input more h)
      ∙ sym (ap (λ (x : List ℕ). x ++ written m.number m.area (lines_from (held_all m.held m.input) more)) (past-rows m.row m.area none-shown))

  line-still : still_to m more ≡ line_text m ++ still_to (line_read m) more
  unfolding line_text line_read
  line-still = lines-only ∙ go (line_ends m) refl
    where
      go : (t : Bool) → line_ends m ≡ t
          → written m.number m.area (lines_from m.held (m.input ++ more))
          ≡ cond t (answer_text m.number (answer_of m.area (asked m)).answer) [] ++ still_to (cond t (answered m (asked m)) (kept m)) more
      go true e = ended (ltb-true (before_lf m.input) (length m.input) e)
      go false e = open-still (ltb-false (before_lf m.input) (length m.input) e)

-- ---- turns

pub turn-still : (m : Place) (more : List ℕ) → still_to m more ≡ turn_text m ++ still_to (turned m) more
unfolding turned turn_text
turn-still m more = go (showing m) refl
  where
    go : (t : Bool) → showing m ≡ t → still_to m more ≡ cond t (shown_text m) (line_text m) ++ still_to (cond t (row_shown m) (line_read m)) more
    go true e = row-still m more
    go false e = line-still m more (ltb-false m.row most_rows e)

pub advances-still : {room : ℕ} {m k : Place} {t : List ℕ} → Advances room m k t → (more : List ℕ) → still_to m more ≡ t ++ still_to k more
advances-still (stops e) more = refl
advances-still {m = m} (turns {k = k} {t = t} e a) more =
    turn-still m more ∙ ap (λ (x : List ℕ). turn_text m ++ x) (advances-still a more) ∙ sym (append_assoc (turn_text m) t (still_to k more))

-- turns come to one place and write one text
pub advances-one : {room : ℕ} {m k k' : Place} {t t' : List ℕ} → Advances room m k t → Advances room m k' t' → (k ≡ k') × (t ≡ t')
advances-one (stops e) (stops f) = (refl, refl)
advances-one (stops e) (turns f b) = absurd (true≢false (sym f ∙ e))
advances-one (turns e a) (stops f) = absurd (true≢false (sym e ∙ f))
advances-one {m = m} (turns e a) (turns f b) = let s = advances-one a b in (s.0, ap (λ (x : List ℕ). turn_text m ++ x) s.1)

-- where they stop, nothing is left to do or there is no room
pub advances-stop : {room : ℕ} {m k : Place} {t : List ℕ} → Advances room m k t → goes_on (room - length t) k ≡ false
advances-stop {room = room} {m = m} (stops e) = ap (λ (r : ℕ). goes_on r m) (let z : room - 0 ≡ room = omega arith in z) ∙ e
advances-stop {room = room} {m = m} (turns {k = k} {t = t} e a) =
    let n = length-append (turn_text m) t in
    let same : room - length (turn_text m ++ t) ≡ room - length (turn_text m) - length t = omega arith in
    ap (λ (r : ℕ). goes_on r k) same ∙ advances-stop a
