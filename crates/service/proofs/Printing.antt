-- What the calls of `print` wrote, one behind the other. Assumes nothing.
use mathlib.Core.Path.{◌≡◌, refl, sym, ap, ◌∙◌}
use mathlib.Core.Bool.{true, false, false≢true}
use mathlib.Core.List.{List, [], ◌∷◌, ◌++◌, append_assoc, append-nil}
use mathlib.Core.Logic.{by_cases}
use Prim.Native.Nat.{ℕ, suc, ◌+◌, ◌*◌, ◌≤◌, ◌<◌}
use native.Mathlib.Decide.{dec_lt}
use native.Mathlib.Numerals.{add-one}
use native.Mathlib.Omega.{arith}
use lib.ListN.{length, take, drop, length-append, take-append-drop}
use lib.Seq.{take-suc, take_all}
use Rattle.area.specs.Layout.{most_rows, good_bytes}
use Rattle.area.specs.State.{Entry, state_of, each}
use Rattle.area.proofs.Cells.{each_append}
use Rattle.area.proofs.RowLaws.{none}
use Rattle.area.proofs.Bytes.{good-state}
use Rattle.table.specs.Table.{rows_in, nth}
use Rattle.written.specs.Print.{Print, Prints}
use Rattle.written.specs.Result.{number_of}
use Rattle.written.specs.declared.Refusal.{Refusal}
use Rattle.written.specs.declared.Refusal.TheVariants.{BadArea, NoPermission, UnknownRole, ShortBuffer, BadNameTable, NoRow}
use Rattle.written.specs.declared.Written.{Written}
use Rattle.print.specs.Printed.{open_line, row_lines, printed}
use Rattle.print.specs.Print.{least_room, print_open_of, print_row_of}
use Rattle.print.proofs.PrintLaws.{by-area, open-bad, open-writes, row-none, row-writes, is-good, open-fits, row_fits}
use Rattle.std.proofs.Common.{Ok, Err, IsOk}
use Rattle.std.specs.declared.result.Result.{Result}
use Rattle.std.specs.declared.io.Error.{Error}
use Rattle.service.specs.declared.PrintError.{PrintError}
use Rattle.service.specs.declared.PrintError.TheVariants as not_printed
use Rattle.service.specs.PrintedOut.{handed_over, handed_on, PrintedOut}

-- ---- what a call answered

pub refused-number : (r : Refusal) → ¬ (number_of r ≡ 0)
refused-number BadArea z = omega arith
refused-number NoPermission z = omega arith
refused-number UnknownRole z = omega arith
refused-number ShortBuffer z = omega arith
refused-number BadNameTable z = omega arith
refused-number NoRow z = omega arith

answer-of : {o p : Print} {w : Written} {e : List ℕ} → Prints o w e → o ≡ p → w.answer ≡ p.answer
answer-of s q = s.answer ∙ ap (λ (x : Print). x.answer) q

bytes_of : {o p : Print} {w : Written} {e : List ℕ} → Prints o w e → o ≡ p → w.bytes ≡ p.bytes
bytes_of s q = s.bytes ∙ ap (λ (x : Print). x.bytes) q

-- the lines of a row of the area l
abbrev lines_in : List ℕ → Entry → List ℕ
lines_in l = row_lines (state_of l).policy

module _ (l d : List ℕ) (room : least_room ≤ length d) {w : Written} {e : List ℕ} (s : Prints (print_open_of l d) w e) where
  pub opened : w.answer ≡ 0 → (good_bytes l ≡ true) × (w.bytes ≡ length (open_line (state_of l))) × (w.bytes ≤ least_room)
  opened z = by-area l
      (λ g. let a = answer-of s (open-bad l d g) in absurd (omega arith))
      (λ g. let b = bytes_of s (open-writes l d g room) in let f = open-fits l g in (g, b, omega arith))

  pub not_opened : ¬ (w.answer ≡ 0) → (good_bytes l ≡ false) × (w.answer ≡ 1)
  not_opened n = by-area l (λ g. (g, answer-of s (open-bad l d g))) (λ g. absurd (n (answer-of s (open-writes l d g room))))

module _ (l d : List ℕ) (i : ℕ) (g : good_bytes l ≡ true) (room : least_room ≤ length d) {w : Written} {e : List ℕ} (s : Prints (print_row_of l i d) w e) where
  pub row-printed : w.answer ≡ 0 → (i < length (rows_in l)) × (w.bytes ≡ length (lines_in l (nth i (rows_in l)))) × (w.bytes ≤ least_room)
  row-printed z = by_cases (dec_lt i (length (rows_in l)))
      (λ h. let b = bytes_of s (row-writes l i d g h room) in let f = row_fits l g i h in (h, b, omega arith))
      (λ h. let k : length (rows_in l) ≤ i = omega arith in let a = answer-of s (row-none l i d g k) in absurd (omega arith))

  pub rows-ended : ¬ (w.answer ≡ 0) → length (rows_in l) ≤ i
  rows-ended n = by_cases (dec_lt i (length (rows_in l))) (λ h. absurd (n (answer-of s (row-writes l i d g h room)))) (λ h. omega arith)

-- ---- the text so far

-- the O line and the first i rows
abbrev pub text_to : List ℕ → ℕ → List ℕ
text_to l i = open_line (state_of l) ++ each (lines_in l) (take i (rows_in l))

each-one : (f : Entry → List ℕ) (e : Entry) → each f (e ∷ []) ≡ f e
unfolding each
each-one f e = append-nil (f e)

text-start : (l : List ℕ) → length (text_to l 0) ≡ length (open_line (state_of l))
unfolding each
text-start l = ap length (append-nil (open_line (state_of l)))

text-more : (l : List ℕ) (i : ℕ) → i < length (rows_in l) → length (text_to l (suc i)) ≡ length (text_to l i) + length (lines_in l (nth i (rows_in l)))
text-more l i h =
    let rows : each (lines_in l) (take (suc i) (rows_in l)) ≡ each (lines_in l) (take i (rows_in l)) ++ lines_in l (nth i (rows_in l)) =
    ap (each (lines_in l)) (take-suc (rows_in l) i none h) ∙ each_append (lines_in l) (take i (rows_in l)) (nth i (rows_in l) ∷ [])
    ∙ ap (λ (t : List ℕ). each (lines_in l) (take i (rows_in l)) ++ t) (each-one (lines_in l) (nth i (rows_in l)))
    in
    ap length (ap (λ (t : List ℕ). open_line (state_of l) ++ t) rows ∙ sym (append_assoc (open_line (state_of l)) (each (lines_in l) (take i (rows_in l))) (lines_in l (nth i (rows_in l)))))
    ∙ length-append (text_to l i) (lines_in l (nth i (rows_in l)))

text-begins : (l : List ℕ) (i : ℕ) → text_to l i ++ each (lines_in l) (drop i (rows_in l)) ≡ printed (state_of l)
unfolding printed
text-begins l i =
    append_assoc (open_line (state_of l)) (each (lines_in l) (take i (rows_in l))) (each (lines_in l) (drop i (rows_in l)))
    ∙ ap (λ (t : List ℕ). open_line (state_of l) ++ t)
    (sym (each_append (lines_in l) (take i (rows_in l)) (drop i (rows_in l))) ∙ ap (each (lines_in l)) (take-append-drop i (rows_in l)))

text-all : (l : List ℕ) (i : ℕ) → length (rows_in l) ≤ i → text_to l i ≡ printed (state_of l)
unfolding printed
text-all l i h = ap (λ (es : List Entry). open_line (state_of l) ++ each (lines_in l) es) (take_all i (rows_in l) h)

-- ---- turn by turn

-- the O line and `row` rows of a good area were handed over, n bytes
pub record Going (l : List ℕ) (row n : ℕ) : Type 0 where
  pub good : good_bytes l ≡ true
  pub rows : row ≤ length (rows_in l)
  pub most : length (rows_in l) ≤ most_rows
  pub bytes : n ≡ length (text_to l row)
  pub few : n ≤ (row + 1) * least_room

module _ (l d : List ℕ) (room : least_room ≤ length d) {w : Written} {e : List ℕ} (s : Prints (print_open_of l d) w e) (z : w.answer ≡ 0) where
  pub starts : (n : ℕ) → n ≡ 0 + w.bytes → Going l 0 n
  starts n b =
      let o = opened l d room s z in
      record {
        good = o.0;
        rows = omega arith;
        most = (good-state l (is-good l o.0)).most-rows;
        bytes = omega (arith, b, o.1, text-start l);
        few = omega (arith, b, o.2);
      }

module _ (l d : List ℕ) (row : ℕ) {m : ℕ} (g : Going l row m) (room : least_room ≤ length d) {w : Written} {e : List ℕ} (s : Prints (print_row_of l row d) w e) where
  pub goes_on : w.answer ≡ 0 → (n : ℕ) → n ≡ m + w.bytes → Going l (row + 1) n
  goes_on z n b =
      let o = row-printed l d row g.good room s z in
      record {
        good = g.good;
        rows = omega (arith, o.0);
        most = g.most;
        bytes = rw add-one (omega (arith, b, o.1, text-more l row o.0, g.bytes));
        few = omega (arith, b, o.2, g.few);
      }

record HandedOver (n : ℕ) (r : Result ℕ PrintError) : Type 0 where
  bytes : handed_over r ≡ n
  good : ¬ (r ≡ Err not_printed.BadArea)

handed : (t : Result (Unit {0}) Error) (n : ℕ) → HandedOver n (handed_on t n)
handed (Ok u) n = record { bytes = refl; good = λ e. cc }
handed (Err why) n = record { bytes = refl; good = λ e. cc }

pub handed-bytes : (t : Result (Unit {0}) Error) (n : ℕ) {b : ℕ} → Ok b ≡ handed_on t n → b ≡ n
handed-bytes (Ok u) n e = cc
handed-bytes (Err why) n e = absurd cc

goes-printed : {l : List ℕ} {row n : ℕ} (r : Result ℕ PrintError) → Going l row n → HandedOver n r → (IsOk r → length (rows_in l) ≤ row) → PrintedOut l r
goes-printed {l} {row} {n} r g o h = record {
  text = text_to l row;
  handed = o.bytes ∙ g.bytes;
  bad = λ b. absurd (false≢true (sym b ∙ g.good));
  good = λ b. (o.good, each (lines_in l) (drop row (rows_in l)), text-begins l row);
  all = λ b a. text-all l row (h a);
}

-- the output stopped taking it
pub goes-cut : {l : List ℕ} {row n : ℕ} (e : PrintError) → Going l row n → (t : Result (Unit {0}) Error) → Err e ≡ handed_on t n → PrintedOut l (Err e)
goes-cut {l} {row} {n} e g t q = goes-printed (Err e) g (rw q (handed t n)) (λ k. absurd (false≢true k))

-- no row is left
pub goes-whole : {l : List ℕ} {row : ℕ} (n : ℕ) → Going l row n → length (rows_in l) ≤ row → PrintedOut l (Ok n)
goes-whole n g h = goes-printed (Ok n) g (record { bytes = refl; good = λ e. cc }) (λ k. h)

pub none-printed : (l d : List ℕ) → least_room ≤ length d → {w : Written} {e : List ℕ} → Prints (print_open_of l d) w e → ¬ (w.answer ≡ 0)
    → PrintedOut l (Err not_printed.BadArea)
none-printed l d room {w} {e} s n =
    let o = not_opened l d room s n in
    record {
      text = [];
      handed = refl;
      bad = λ b. (refl, refl);
      good = λ b. absurd (false≢true (sym o.0 ∙ b));
      all = λ b. absurd (false≢true (sym o.0 ∙ b));
    }
