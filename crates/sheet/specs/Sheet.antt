-- The sheet as a call: what it answers, and the lent buffer after it. It knows the area by a look at it alone.
--     sheet_bytes          a buffer of so many bytes is asked for; no sheet is longer
--     longest_sheet        the longest has so many
--     sheet_refusals       the refusals, in the order 1, 17, 3, 4, 16; k is what the look answers
--     sheet_of l works standard p s d    the sheet of the permission p for the session s, into the buffer d
use Rattle.std.specs.Prelude.{not, ◌&&◌, List, [], ◌∷◌, ℕ, eqb, ltb, length}
use Rattle.refusals.specs.Refusals.{Refusal, refusal, refuse}
use Rattle.written.specs.Print.{Print, kept, shown}
use Rattle.calls.specs.Calls.{Look, look_of}
use Rattle.names.specs.Names.{good_table}
use Rattle.sheet.specs.Text.{name_text, sheet_text}

abbrev pub sheet_bytes : ℕ
sheet_bytes = 36864

abbrev pub longest_sheet : ℕ
longest_sheet = 31250

abbrev pub sheet_refusals : ℕ → List ℕ → List ℕ → List ℕ → List Refusal
sheet_refusals k works standard d =
    refusal 1 (eqb k 1)
    ∷ refusal 17 (not (good_table works && good_table standard))
    ∷ refusal 3 (eqb k 3)
    ∷ refusal 4 (eqb k 4)
    ∷ refusal 16 (ltb (length d) sheet_bytes)
    ∷ []

unfoldable pub sheet_of : List ℕ → List ℕ → List ℕ → ℕ → ℕ → List ℕ → Print
sheet_of l works standard p s d =
    let k : Look = look_of l p s in
    refuse (sheet_refusals k.decided.answer works standard d) (λ a. kept a d) (shown (sheet_text (name_text works standard) k.row s) d)
