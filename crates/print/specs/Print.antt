-- The calls that print: what each answers, and the lent buffer after it.
--     least_room           a buffer of so many bytes is asked for; no text of a call is longer
--     open_refusals, row_refusals    the refusals, in the order 1, 18, 16
--     print_open_of l d    the O line of the area l, into the buffer d
--     print_row_of l i d   the lines of the row of number i, in the area's policy state
use Rattle.std.specs.Prelude.{not, List, [], ◌∷◌, ℕ, ltb, leb, length}
use Rattle.refusals.specs.Refusals.{Refusal, refusal, refuse}
pub use Rattle.written.specs.Print.{Print, kept, shown, Prints}
use Rattle.area.specs.Layout.{good_bytes}
use Rattle.area.specs.State.{state_of}
use Rattle.table.specs.Table.{rows_in, nth}
use Rattle.print.specs.Printed.{open_line, row_lines}

abbrev pub least_room : ℕ
least_room = 4096

abbrev pub open_refusals : List ℕ → List ℕ → List Refusal
open_refusals l d = refusal 1 (not (good_bytes l)) ∷ refusal 16 (ltb (length d) least_room) ∷ []

abbrev pub row_refusals : List ℕ → ℕ → List ℕ → List Refusal
row_refusals l i d = refusal 1 (not (good_bytes l)) ∷ refusal 18 (leb (length (rows_in l)) i) ∷ refusal 16 (ltb (length d) least_room) ∷ []

unfoldable pub print_open_of : List ℕ → List ℕ → Print
print_open_of l d = refuse (open_refusals l d) (λ a. kept a d) (shown (open_line (state_of l)) d)

unfoldable pub print_row_of : List ℕ → ℕ → List ℕ → Print
print_row_of l i d = refuse (row_refusals l i d) (λ a. kept a d) (shown (row_lines (state_of l).policy (nth i (rows_in l))) d)
