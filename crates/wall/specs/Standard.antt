-- The standard names, which the program has in it.
--     standard_list    the list of them, lines `number name`
--     standard_table   the table made of it
use Rattle.std.specs.Prelude.{List, [], ◌∷◌, ℕ}
use Rattle.listing.specs.Listing.{listing}

unfoldable pub standard_list : List ℕ
standard_list =
    -- `0 visitor`
    48 ∷ 32 ∷ 118 ∷ 105 ∷ 115 ∷ 105 ∷ 116 ∷ 111 ∷ 114 ∷ 10 ∷
    -- `1 operator`
    49 ∷ 32 ∷ 111 ∷ 112 ∷ 101 ∷ 114 ∷ 97 ∷ 116 ∷ 111 ∷ 114 ∷ 10 ∷
    -- `2 fitter`
    50 ∷ 32 ∷ 102 ∷ 105 ∷ 116 ∷ 116 ∷ 101 ∷ 114 ∷ 10 ∷
    -- `3 electrician`
    51 ∷ 32 ∷ 101 ∷ 108 ∷ 101 ∷ 99 ∷ 116 ∷ 114 ∷ 105 ∷ 99 ∷ 105 ∷ 97 ∷ 110 ∷ 10 ∷
    -- `4 shift leader`
    52 ∷ 32 ∷ 115 ∷ 104 ∷ 105 ∷ 102 ∷ 116 ∷ 32 ∷ 108 ∷ 101 ∷ 97 ∷ 100 ∷ 101 ∷ 114 ∷ 10 ∷
    -- `5 laboratory`
    53 ∷ 32 ∷ 108 ∷ 97 ∷ 98 ∷ 111 ∷ 114 ∷ 97 ∷ 116 ∷ 111 ∷ 114 ∷ 121 ∷ 10 ∷
    -- `6 instrument technician`
    54 ∷ 32 ∷ 105 ∷ 110 ∷ 115 ∷ 116 ∷ 114 ∷ 117 ∷ 109 ∷ 101 ∷ 110 ∷ 116 ∷ 32 ∷ 116 ∷ 101 ∷ 99 ∷ 104 ∷ 110 ∷ 105 ∷ 99 ∷ 105 ∷ 97 ∷ 110 ∷ 10 ∷
    -- `7 process engineer`
    55 ∷ 32 ∷ 112 ∷ 114 ∷ 111 ∷ 99 ∷ 101 ∷ 115 ∷ 115 ∷ 32 ∷ 101 ∷ 110 ∷ 103 ∷ 105 ∷ 110 ∷ 101 ∷ 101 ∷ 114 ∷ 10 ∷
    -- `8 head of works`
    56 ∷ 32 ∷ 104 ∷ 101 ∷ 97 ∷ 100 ∷ 32 ∷ 111 ∷ 102 ∷ 32 ∷ 119 ∷ 111 ∷ 114 ∷ 107 ∷ 115 ∷ 10 ∷
    -- `9 storekeeper`
    57 ∷ 32 ∷ 115 ∷ 116 ∷ 111 ∷ 114 ∷ 101 ∷ 107 ∷ 101 ∷ 101 ∷ 112 ∷ 101 ∷ 114 ∷ 10 ∷
    -- `10 driver`
    49 ∷ 48 ∷ 32 ∷ 100 ∷ 114 ∷ 105 ∷ 118 ∷ 101 ∷ 114 ∷ 10 ∷
    -- `11 contractor`
    49 ∷ 49 ∷ 32 ∷ 99 ∷ 111 ∷ 110 ∷ 116 ∷ 114 ∷ 97 ∷ 99 ∷ 116 ∷ 111 ∷ 114 ∷ 10 ∷
    -- `12 trainee`
    49 ∷ 50 ∷ 32 ∷ 116 ∷ 114 ∷ 97 ∷ 105 ∷ 110 ∷ 101 ∷ 101 ∷ 10 ∷
    -- `13 safety officer`
    49 ∷ 51 ∷ 32 ∷ 115 ∷ 97 ∷ 102 ∷ 101 ∷ 116 ∷ 121 ∷ 32 ∷ 111 ∷ 102 ∷ 102 ∷ 105 ∷ 99 ∷ 101 ∷ 114 ∷ 10 ∷
    -- `14 auditor`
    49 ∷ 52 ∷ 32 ∷ 97 ∷ 117 ∷ 100 ∷ 105 ∷ 116 ∷ 111 ∷ 114 ∷ 10 ∷
    -- `15 head office`
    49 ∷ 53 ∷ 32 ∷ 104 ∷ 101 ∷ 97 ∷ 100 ∷ 32 ∷ 111 ∷ 102 ∷ 102 ∷ 105 ∷ 99 ∷ 101 ∷ 10 ∷ []

unfoldable pub standard_table : List ℕ
standard_table = (listing standard_list).table
