-- The calls that print answer on their grounds, and write the lines of an area one behind the other. Assumes nothing.
use mathlib.Core.Path.{◌≡◌, refl, ap, ◌∙◌}
use mathlib.Core.Bool.{true, not}
use mathlib.Core.List.{List, [], ◌∷◌, ◌++◌}
use mathlib.Core.Logic.{◌↔◌, by_cases}
use Prim.Native.Nat.{ℕ, zero, suc, ◌+◌, ◌≤◌, ◌<◌}
use native.Mathlib.Nat.{zero-add}
use native.Mathlib.Decide.{dec_lt}
use native.Mathlib.Omega.{arith}
use lib.Dec.{T, ltb, leb, ltb→lt, lt→ltb, leb→le, le→leb}
use lib.ListN.{length, drop, drop_of_length-le}
use lib.Seq.{drop-cons}
use Rattle.roles.proofs.Tests.{T_true, not_test}
use Rattle.refusals.specs.Refusals.{Ground, ground}
use Rattle.written.specs.Print.{Print, shown}
use Rattle.written.specs.Grounds as written
use Rattle.written.proofs.Laws.{shown-text, Within, kept-within, shown-within, on-grounds, one-text}
use Rattle.area.specs.Layout.{good_bytes}
use Rattle.area.specs.State.{state_of, each}
use Rattle.area.proofs.RowLaws.{none}
use Rattle.table.specs.Table.{rows_in, nth}
use Rattle.print.specs.Printed.{open_line, row_lines, printed}
use Rattle.print.specs.Print.{least_room, open_refusals, row_refusals, print_open_of, print_row_of}
use Rattle.print.specs.Printing.{OnGrounds, text, rows_from, Printing}
use Rattle.print.proofs.PrintLaws.{by-area, open-bad, open-short, open-writes, row-bad, row-none, row-short, row-writes, open-fits, row_fits}

-- ---- each call on its grounds

-- what the tests say
bad-area : (l : List ℕ) → T (not (good_bytes l)) ↔ ¬ (T (good_bytes l))
bad-area l = not_test (good_bytes l) (T (good_bytes l)) ((λ x. x), (λ x. x))

short-buffer : (d : List ℕ) → T (ltb (length d) least_room) ↔ (length d < 4096)
short-buffer d = (ltb→lt (length d) least_room, lt→ltb (length d) least_room)

no_row : (l : List ℕ) (i : ℕ) → T (leb (length (rows_in l)) i) ↔ (length (rows_in l) ≤ i)
no_row l i = (leb→le (length (rows_in l)) i, le→leb (length (rows_in l)) i)

open-within : (l d : List ℕ) → Within least_room d (print_open_of l d)
open-within l d = by-area l
    (λ g. rw (open-bad l d g) (kept-within least_room d 1))
    (λ g. by_cases (dec_lt (length d) least_room)
    (λ h. rw (open-short l d g h) (kept-within least_room d 16))
    (λ h. let k : least_room ≤ length d = omega arith in let f = open-fits l g in rw (open-writes l d g k) (shown-within least_room d (open_line (state_of l)) f (omega arith))))

row_within : (l : List ℕ) (i : ℕ) (d : List ℕ) → Within least_room d (print_row_of l i d)
row_within l i d = by-area l
    (λ g. rw (row-bad l i d g) (kept-within least_room d 1))
    (λ g. by_cases (dec_lt i (length (rows_in l)))
    (λ u. by_cases (dec_lt (length d) least_room)
    (λ h. rw (row-short l i d g u h) (kept-within least_room d 16))
    (λ h. let k : least_room ≤ length d = omega arith in let f = row_fits l g i u in rw (row-writes l i d g u k) (shown-within least_room d (row_lines (state_of l).policy (nth i (rows_in l))) f (omega arith))))
    (λ u. let k : length (rows_in l) ≤ i = omega arith in rw (row-none l i d g k) (kept-within least_room d 18)))

-- what holds of every call that writes a text, with this length
of-written : {d : List ℕ} {o : Print} {gs : List Ground} → written.OnGrounds least_room d o gs → OnGrounds d o gs
of-written g = record { exactly = g.exactly; refused = g.refused; short = g.short; behind = g.behind }

open-answers : (l d : List ℕ) → OnGrounds d (print_open_of l d) (ground 1 (¬ (T (good_bytes l))) ∷ ground 16 (length d < 4096) ∷ [])
unfolding print_open_of
open-answers l d = of-written (on-grounds least_room d (shown (open_line (state_of l)) d) (open_refusals l d) _ refl (refl, bad-area l, (refl, short-buffer d, tt)) tt tt (open-within l d))

row-answers : (l : List ℕ) (i : ℕ) (d : List ℕ)
    → OnGrounds d (print_row_of l i d) (ground 1 (¬ (T (good_bytes l))) ∷ ground 18 (length (state_of l).rows ≤ i) ∷ ground 16 (length d < 4096) ∷ [])
unfolding print_row_of
row-answers l i d =
    of-written (on-grounds least_room d (shown (row_lines (state_of l).policy (nth i (rows_in l))) d) (row_refusals l i d) _ refl
    (refl, bad-area l, (refl, no_row l i, (refl, short-buffer d, tt))) tt tt (row_within l i d))

-- ---- one call behind the other

module _ (l : List ℕ) (g : good_bytes l ≡ true) where
  open-text : (d : List ℕ) → 4096 ≤ length d → text (print_open_of l d) ≡ open_line (state_of l)
  open-text d k = ap text (open-writes l d g k) ∙ shown-text (open_line (state_of l)) d (let f = open-fits l g in omega arith)

  row-text : (i : ℕ) (d : List ℕ) → i < length (rows_in l) → 4096 ≤ length d → text (print_row_of l i d) ≡ row_lines (state_of l).policy (nth i (rows_in l))
  row-text i d h k = ap text (row-writes l i d g h k) ∙ shown-text (row_lines (state_of l).policy (nth i (rows_in l))) d (let f = row_fits l g i h in omega arith)

  rows-text : (d : ℕ → List ℕ) → ((i : ℕ) → 4096 ≤ length (d i)) → (n i : ℕ) → i + n ≡ length (rows_in l) → rows_from l d i n ≡ each (row_lines (state_of l).policy) (drop i (rows_in l))
  unfolding rows_from each
  rows-text d k zero i e = rw (drop_of_length-le (rows_in l) {i = i} (omega arith)) refl
  rows-text d k (suc n) i e =
      let h : i < length (rows_in l) = omega arith in
      rw (drop-cons (rows_in l) i none h)
      (ap (λ (t : List ℕ). t ++ rows_from l d (suc i) n) (row-text i (d i) h (k i)) ∙ ap (λ (t : List ℕ). row_lines (state_of l).policy (nth i (rows_in l)) ++ t) (rows-text d k n (suc i) (omega arith)))

  whole-text : (o : List ℕ) → 4096 ≤ length o → (d : ℕ → List ℕ) → ((i : ℕ) → 4096 ≤ length (d i)) → text (print_open_of l o) ++ rows_from l d 0 (length (rows_in l)) ≡ printed (state_of l)
  unfolding printed
  whole-text o k d m =
      ap (λ (t : List ℕ). t ++ rows_from l d 0 (length (rows_in l))) (open-text o k)
      ∙ ap (λ (t : List ℕ). open_line (state_of l) ++ t) (rows-text d m (length (rows_in l)) 0 (zero-add (length (rows_in l))))

pub printing : Printing
printing = record {
  open-answers = open-answers;
  row-answers = row-answers;
  one-outcome = one-text;
  whole = λ l g o k d m. whole-text l (T_true (good_bytes l) g) o k d m;
}
