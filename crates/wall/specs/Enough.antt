-- That what is loaded of NAMES is enough.
--     Enough    a table of bytes that is cut behind its first 65,567, or further on, gives the sheet of the whole
use Rattle.std.specs.Prelude.{◌≡◌, List, ℕ, ◌≤◌, get_or, take}
use Rattle.sheet.specs.Sheet.{sheet_of}

abbrev pub Enough : Type 0
Enough = (l works standard : List ℕ) → ((k : ℕ) → get_or works k 0 ≤ 255) → (n : ℕ) → 65567 ≤ n → (p s : ℕ) (d : List ℕ)
    → sheet_of l (take n works) standard p s d ≡ sheet_of l works standard p s d
