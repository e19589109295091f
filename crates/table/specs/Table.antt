-- The rows of a good area, by number and by permission.
--     rows_in l        the rows that the bytes l hold
--     Sound l          the bytes l are a good area
--     holding l es     the state of l with the rows es in place of its own
--     nth i es         the row of number i
--     row_from d l     the row that a denied set and open sets make
--     has_row p es     p has a row
--     found_for p es   where the row of p stands, else, as an Err, where it would stand
use Rattle.std.specs.Prelude.{Bool, cond, ◌&&◌, List, ◌≡◌, ℕ, ◌≤◌, T, ltb, eqb, length, get_or, Result, Ok, Err}
use Rattle.meaning.specs.Rows.{Row, blank}
use Rattle.area.specs.Layout.{most_rows, area_bytes, good_bytes}
use Rattle.area.specs.State.{with_rows, Entry, State, entry, state_of, place}
use Rattle.roles.specs.declared.RoleSet.{RoleSet}
use Rattle.rows.specs.declared.OpenSets.{OpenSets}
use Rattle.rows.specs.Stored.{held}

abbrev pub rows_in : List ℕ → List Entry
rows_in l = (state_of l).rows

-- the bytes are a good area; its length and its number of rows are said besides
pub record Sound (l : List ℕ) : Type 0 where
  pub good : T (good_bytes l)
  pub size : length l ≡ area_bytes
  pub few : length (rows_in l) ≤ most_rows

abbrev pub holding : List ℕ → List Entry → State
holding l es = with_rows (state_of l) es

-- the row of number i, where there is one
abbrev pub nth : ℕ → List Entry → Entry
nth i es = get_or es i (entry 0 blank)

abbrev pub row_from : RoleSet → OpenSets → Row
row_from d l = record { denied = d.bits; opens = held l }

-- p has a row: the one at its place
abbrev pub has_row : ℕ → List Entry → Bool
has_row p es = ltb (place p es) (length es) && eqb (nth (place p es) es).permission p

unfoldable pub found_for : ℕ → List Entry → Result ℕ ℕ
found_for p es = cond (has_row p es) (Ok (place p es)) (Err (place p es))
