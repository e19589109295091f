-- Sheets byte by byte, and the longest one.
--     own_table, standard_table   tables of few names: role 1 is `op` in the works' own, roles 1 and 2 are `x` in the standard one
--     few_sets             a row: 1 is denied, 2 is an open set alone, 3 and 4 are one, 3 and 5 another
--     known_lines          the lines `denied op`, `proved x` and `open 3 4 ; 3 5`
--     long_pairs, long_names a table in which every role has the same name: the first 32 of its 256 bytes
--     longest_row          15 open sets of 63 roles, all but role 63, all but 62, and so on; nothing is denied
--     Readings             the sheets of one row for {1}, {3, 5} and {3}; and one of 31,250 bytes, of a good row with good tables
use Rattle.std.specs.Prelude.{◌≡◌, List, [], ◌∷◌, ◌++◌, map, ℕ, zero, suc, length, replicate}
use Rattle.roles.specs.Sets.{single, all_below, without}
use Rattle.meaning.specs.Rows.{Row, Good}
use Rattle.names.specs.Names.{Tables}
use Rattle.sheet.specs.Text.{name_text, sheet_text}

abbrev pub own_table : List ℕ
own_table = replicate 4 0 ++ ((0 ∷ 1 ∷ 2 ∷ 0 ∷ []) ++ (replicate 248 0 ++ (111 ∷ 112 ∷ [])))

abbrev pub standard_table : List ℕ
standard_table = replicate 4 0 ++ ((0 ∷ 1 ∷ 1 ∷ 0 ∷ []) ++ ((0 ∷ 1 ∷ 1 ∷ 0 ∷ []) ++ (replicate 244 0 ++ (120 ∷ []))))

abbrev pub few_sets : Row
few_sets = record { denied = 2; opens = 4 ∷ 24 ∷ 40 ∷ [] }

abbrev pub known_lines : List ℕ
known_lines =
    (100 ∷ 101 ∷ 110 ∷ 105 ∷ 101 ∷ 100 ∷ 32 ∷ 111 ∷ 112 ∷ 10 ∷ [])
    ++ ((112 ∷ 114 ∷ 111 ∷ 118 ∷ 101 ∷ 100 ∷ 32 ∷ 120 ∷ 10 ∷ [])
    ++ (111 ∷ 112 ∷ 101 ∷ 110 ∷ 32 ∷ 51 ∷ 32 ∷ 52 ∷ 32 ∷ 59 ∷ 32 ∷ 51 ∷ 32 ∷ 53 ∷ 10 ∷ []))

unfoldable pub long_pairs : ℕ → List ℕ
long_pairs zero = []
long_pairs (suc r) = 0 ∷ 0 ∷ 32 ∷ 0 ∷ long_pairs r

abbrev pub long_names : List ℕ
long_names = long_pairs 64

abbrev pub longest_row : Row
longest_row = record { denied = 0; opens = map (λ r. without (all_below 64) (single r)) (63 ∷ 62 ∷ 61 ∷ 60 ∷ 59 ∷ 58 ∷ 57 ∷ 56 ∷ 55 ∷ 54 ∷ 53 ∷ 52 ∷ 51 ∷ 50 ∷ 49 ∷ []) }

pub record Readings : Type 0 where
  -- `verdict deny`, `verdict allow`, `verdict undecided`
  pub denied : sheet_text (name_text own_table standard_table) few_sets 2 ≡ known_lines ++ (118 ∷ 101 ∷ 114 ∷ 100 ∷ 105 ∷ 99 ∷ 116 ∷ 32 ∷ 100 ∷ 101 ∷ 110 ∷ 121 ∷ 10 ∷ [])
  pub allowed : sheet_text (name_text own_table standard_table) few_sets 40 ≡ known_lines ++ (118 ∷ 101 ∷ 114 ∷ 100 ∷ 105 ∷ 99 ∷ 116 ∷ 32 ∷ 97 ∷ 108 ∷ 108 ∷ 111 ∷ 119 ∷ 10 ∷ [])
  pub undecided : sheet_text (name_text own_table standard_table) few_sets 8
      ≡ known_lines ++ (118 ∷ 101 ∷ 114 ∷ 100 ∷ 105 ∷ 99 ∷ 116 ∷ 32 ∷ 117 ∷ 110 ∷ 100 ∷ 101 ∷ 99 ∷ 105 ∷ 100 ∷ 101 ∷ 100 ∷ 10 ∷ [])
  pub longest-tables : Tables long_names long_names
  pub longest-row : Good 64 longest_row
  pub longest : length (sheet_text (name_text long_names long_names) longest_row 1) ≡ 31250
