-- The texts of answers and rows.
--     equals              the sign that rows begin with, as a byte
--     most_text           no answer and no row is longer
--     with_role a r       the answer a with the role r
--     role_text r         a space and the role; nothing from 64 on, which is no role
--     answer_text k a     line number, space, answer, the role where there is one, LF
--     sets_of, sets_text  the sets of a row in the order in which they are printed; sets, a space before each
--     row_text            `= p denied open open ..`, LF
use Rattle.std.specs.Prelude.{cond, List, [], ◌∷◌, ◌++◌, ℕ, ltb}
use Rattle.roles.specs.Sets.{most_roles}
use Rattle.meaning.specs.Rows.{Row, Decided}
use Rattle.area.specs.State.{Entry}
use Rattle.text.specs.Ascii.{space, lf}
use Rattle.text.specs.Number.{number_text}
use Rattle.text.specs.Set.{set_text}

abbrev pub equals : ℕ
equals = 61

abbrev pub most_text : ℕ
most_text = 4096

abbrev pub with_role : ℕ → ℕ → Decided
with_role a r = record { answer = a; role = r }

unfoldable pub role_text : ℕ → List ℕ
role_text r = cond (ltb r most_roles) ((space ∷ []) ++ number_text r) []

unfoldable pub answer_text : ℕ → Decided → List ℕ
answer_text k a = number_text k ++ (space ∷ []) ++ number_text a.answer ++ role_text a.role ++ lf ∷ []

abbrev pub sets_of : Row → List ℕ
sets_of w = w.denied ∷ w.opens

unfoldable pub sets_text : List ℕ → List ℕ
sets_text [] = []
sets_text (s ∷ l) = (space ∷ []) ++ set_text s ++ sets_text l

unfoldable pub row_text : Entry → List ℕ
row_text e = (equals ∷ space ∷ []) ++ number_text e.permission ++ sets_text (sets_of e.row) ++ lf ∷ []
