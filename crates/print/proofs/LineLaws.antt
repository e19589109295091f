-- What lines say of a row, one line after the other. Assumes nothing.
use mathlib.Core.Path.{◌≡◌, refl, sym, ap, ◌∙◌}
use mathlib.Core.Bool.{true, false}
use mathlib.Core.List.{List, [], ◌∷◌, ◌++◌, append_assoc}
use Prim.Native.Nat.{ℕ, ◌+◌, ◌≤◌, ◌<◌}
use native.Mathlib.Numerals.{add-one}
use lib.Dec.{eqb}
use lib.ListN.{length, drop, get_or, drop_of_length-le}
use lib.Seq.{drop-cons}
use Rattle.meaning.specs.declared.Happening.{Happening}
use Rattle.meaning.specs.Rows.{Row}
use Rattle.area.specs.State.{entry}
use Rattle.requests.specs.Request.{letter_a, letter_d, event_text, request_text, told}
use Rattle.requests.specs.declared.Request.{Request}
use Rattle.print.specs.Printed.{denials, allows, tells, line_of, lines_text, row_lines}
use Rattle.print.specs.Lines.{reply_line}

-- ---- lines as requests have them

pub none-denied : (p d g : ℕ) → eqb d 0 ≡ true → lines_text (tells p (denials d) g) ≡ []
unfolding lines_text
none-denied p d g e = rw e refl

pub some-denied : (p d g : ℕ) → eqb d 0 ≡ false → lines_text (tells p (denials d) g) ≡ reply_line letter_d p d g ++ []
unfolding lines_text line_of request_text event_text
some-denied p d g e = rw e refl

pub opens-next : (p : ℕ) (l : List ℕ) (g i : ℕ) → i < length l
    → lines_text (tells p (allows (drop i l)) g) ≡ reply_line letter_a p (get_or l i 0) g ++ lines_text (tells p (allows (drop (i + 1) l)) g)
unfolding lines_text line_of request_text event_text
opens-next p l g i h = rw (add-one, drop-cons l i 0 h) refl

pub opens-end : (p : ℕ) (l : List ℕ) (g i : ℕ) → length l ≤ i → lines_text (tells p (allows (drop i l)) g) ≡ []
unfolding lines_text
opens-end p l g i h = rw (drop_of_length-le l {i = i} h) refl

-- ---- the lines of a row

tells-append : (p : ℕ) (es fs : List Happening) (g : ℕ) → tells p (es ++ fs) g ≡ tells p es g ++ tells p fs g
tells-append p [] fs g = refl
tells-append p (e ∷ es) fs g = ap (λ (x : List Request). told p e g ∷ x) (tells-append p es fs g)

pub lines-append : (qs rs : List Request) → lines_text (qs ++ rs) ≡ lines_text qs ++ lines_text rs
unfolding lines_text
lines-append [] rs = refl
lines-append (q ∷ qs) rs = ap (λ (x : List ℕ). line_of q ++ x) (lines-append qs rs) ∙ sym (append_assoc (line_of q) (lines_text qs) (lines_text rs))

pub row-lines : (g p : ℕ) (w : Row) → row_lines g (entry p w) ≡ lines_text (tells p (denials w.denied) g) ++ lines_text (tells p (allows w.opens) g)
unfolding row_lines
row-lines g p w =
    ap lines_text (tells-append p (denials w.denied) (allows w.opens) g)
    ∙ lines-append (tells p (denials w.denied) g) (tells p (allows w.opens) g)
