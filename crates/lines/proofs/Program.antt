-- What the program writes is a function of its area and of the bytes of its input alone. Assumes nothing.
use Rattle.std.proofs.Common.{◌≡◌, ℕ, suc, ◌≤◌, true, false, not, eqb, List, [], ◌∷◌, ◌++◌, length, sym, refl, ap, ◌∙◌, arith, ltb-false, eqb-true}
use borrow.Author.Tests.{not-true}
use Rattle.area.specs.Layout.{most_rows}
use Rattle.text.specs.Ascii.{lf}
use Rattle.split.specs.Split.{Held, none, is_none, lines_from, whole}
use Rattle.lines.specs.Written.{written, lines_write}
use Rattle.lines.specs.Run.{Place, showing}
use Rattle.lines.specs.Program.{start, idle, fed_with, Runs, writes, reads, closes, ends, ProgramWrites}
use Rattle.split.proofs.SplitLaws.{none_only, lines-closed}
use Rattle.answers.proofs.ShowLaws.{both}
use Rattle.lines.proofs.Turns.{still_to, lines-only, advances-still}

no_bytes : (bs : List ℕ) → eqb (length bs) 0 ≡ true → bs ≡ []
no_bytes [] e = refl
no_bytes (b ∷ bs) e = let z = eqb-true (suc (length bs)) 0 e in absurd (omega arith)

idle-shown : (m : Place) → idle m ≡ true → most_rows ≤ m.row
idle-shown m e = ltb-false m.row most_rows (not-true (showing m) (both (not (showing m)) (eqb (length m.input) 0) e).0)

pub idle-read : (m : Place) → idle m ≡ true → m.input ≡ []
idle-read m e = no_bytes m.input (both (not (showing m)) (eqb (length m.input) 0) e).1

-- an idle program has nothing to write but for the lines that come in
pub idle-still : (m : Place) (more : List ℕ) → idle m ≡ true → still_to m more ≡ written m.number m.area (lines_from m.held more)
idle-still m more e = lines-only m more (idle-shown m e) ∙ ap (λ (x : List ℕ). written m.number m.area (lines_from m.held (x ++ more))) (idle-read m e)

-- bytes that are fed to an idle program come before those behind them
pub fed-still : (m : Place) (bs more : List ℕ) → idle m ≡ true → still_to (fed_with m bs) more ≡ still_to m (bs ++ more)
fed-still m bs more e = lines-only (fed_with m bs) more (idle-shown m e) ∙ sym (idle-still m (bs ++ more) e)

-- the LF for a last line without one changes nothing
pub closed-still : (m : Place) → idle m ≡ true → is_none m.held ≡ false → still_to (fed_with m (lf ∷ [])) [] ≡ still_to m []
closed-still m e n =
    fed-still m (lf ∷ []) [] e
    ∙ idle-still m (lf ∷ []) e
    ∙ ap (written m.number m.area) (lines-closed m.held n)
    ∙ sym (idle-still m [] e)

no_lines : (k : ℕ) (l : List ℕ) → written k l (lines_from none []) ≡ []
unfolding written lines_from is_none
no_lines k l = refl

runs-still : {m : Place} {ps : List (List ℕ)} {t l : List ℕ} → Runs m ps t l → still_to m (whole ps) ≡ t
unfolding whole
runs-still {ps = ps} (writes {t = t} room a r) = advances-still a (whole ps) ∙ ap (λ (x : List ℕ). t ++ x) (runs-still r)
runs-still {m = m} (reads {ps = ps} p e r) = sym (fed-still m p (whole ps) e) ∙ runs-still r
runs-still {m = m} (closes e n r) = sym (closed-still m e n) ∙ runs-still r
runs-still {m = m} (ends e n) = idle-still m [] e ∙ ap (λ (h : Held). written m.number m.area (lines_from h [])) (none_only m.held n) ∙ no_lines m.number m.area

pub program-writes : ProgramWrites
unfolding lines_write
program-writes l ps t l' r = sym (runs-still r) ∙ idle-still (start l) (whole ps) refl
