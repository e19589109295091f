-- The area that a run leaves is a function of the one that it began on and of the bytes of its input alone. Assumes nothing.
use Rattle.std.proofs.Common.{◌≡◌, ℕ, ◌<◌, ◌≤◌, Bool, true, false, cond, List, [], ◌∷◌, ◌++◌, length, sym, refl, ap, ◌∙◌, ltb-false, ltb-true}
use Rattle.text.specs.Ascii.{lf}
use Rattle.text.specs.Lines.{before_lf}
use Rattle.split.specs.Split.{Held, none, is_none, lines_from, whole}
use Rattle.split.proofs.SplitLaws.{none_only, lines-ended, lines-open, lines-closed}
use Rattle.lines.specs.Written.{area_after, lines_leave}
use Rattle.lines.specs.Run.{Place, showing, row_shown, line_ends, asked, answered, kept, line_read, turned, Advances, stops, turns}
use Rattle.lines.specs.Program.{start, idle, fed_with, Runs, writes, reads, closes, ends, ProgramLeaves}
use Rattle.lines.proofs.Program.{idle-read}

-- the area behind all lines from m on, if `more` comes in behind its input
unfoldable still_left : Place → List ℕ → List ℕ
still_left m more = area_after m.area (lines_from m.held (m.input ++ more))

-- ---- every turn keeps it

module _ (m : Place) (more : List ℕ) where
  row-left : still_left m more ≡ still_left (row_shown m) more
  unfolding still_left row_shown
  row-left = refl

  ended-left : before_lf m.input < length m.input → still_left m more ≡ still_left (answered m (asked m)) more
  unfolding still_left area_after
  ended-left h = ap (area_after m.area) (lines-ended m.held m.input more h)

  open-left : length m.input ≤ before_lf m.input → still_left m more ≡ still_left (kept m) more
  unfolding still_left
  open-left h = ap (area_after m.area) (lines-open m.held m.input more h)

  line-left : still_left m more ≡ still_left (line_read m) more
  unfolding line_read
  line-left = go (line_ends m) refl
    where
      go : (t : Bool) → line_ends m ≡ t → still_left m more ≡ still_left (cond t (answered m (asked m)) (kept m)) more
      go true e = ended-left (ltb-true (before_lf m.input) (length m.input) e)
      go false e = open-left (ltb-false (before_lf m.input) (length m.input) e)

  turn-left : still_left m more ≡ still_left (turned m) more
  unfolding turned
  turn-left = go (showing m)
    where
      go : (t : Bool) → still_left m more ≡ still_left (cond t (row_shown m) (line_read m)) more
      go true = row-left
      go false = line-left

advances-left : {room : ℕ} {m k : Place} {t : List ℕ} → Advances room m k t → (more : List ℕ) → still_left m more ≡ still_left k more
advances-left (stops e) more = refl
advances-left {m = m} (turns e a) more = turn-left m more ∙ advances-left a more

-- ---- a run

idle-left : (m : Place) (more : List ℕ) → idle m ≡ true → still_left m more ≡ area_after m.area (lines_from m.held more)
unfolding still_left
idle-left m more e = ap (λ (x : List ℕ). area_after m.area (lines_from m.held (x ++ more))) (idle-read m e)

fed-left : (m : Place) (bs more : List ℕ) → idle m ≡ true → still_left (fed_with m bs) more ≡ still_left m (bs ++ more)
unfolding still_left
fed-left m bs more e = sym (idle-left m (bs ++ more) e)

closed-left : (m : Place) → idle m ≡ true → is_none m.held ≡ false → still_left (fed_with m (lf ∷ [])) [] ≡ still_left m []
closed-left m e n =
    fed-left m (lf ∷ []) [] e
    ∙ idle-left m (lf ∷ []) e
    ∙ ap (area_after m.area) (lines-closed m.held n)
    ∙ sym (idle-left m [] e)

no_lines : (l : List ℕ) → area_after l (lines_from none []) ≡ l
unfolding area_after lines_from is_none
no_lines l = refl

runs-left : {m : Place} {ps : List (List ℕ)} {t l : List ℕ} → Runs m ps t l → still_left m (whole ps) ≡ l
unfolding whole
runs-left {ps = ps} (writes room a r) = advances-left a (whole ps) ∙ runs-left r
runs-left {m = m} (reads {ps = ps} p e r) = sym (fed-left m p (whole ps) e) ∙ runs-left r
runs-left {m = m} (closes e n r) = sym (closed-left m e n) ∙ runs-left r
runs-left {m = m} (ends e n) = idle-left m [] e ∙ ap (λ (h : Held). area_after m.area (lines_from h [])) (none_only m.held n) ∙ no_lines m.area

pub program-leaves : ProgramLeaves
unfolding lines_leave
program-leaves l ps t l' r = sym (runs-left r) ∙ idle-left (start l) (whole ps) refl
