-- What an area knows, as lines that the line program reads: `O n state`, then row by row a D line if something is denied, and an A line for
-- each open set in order, each with the state last.
--     denials d, allows l      a deny reply on the set d, if it has a role; an allow reply on each set of a list
--     replies_of w             the replies that tell of a row
--     tells p es g             the request of the line that tells of each reply about p in the policy state g
--     line_of q, lines_text    the line of a request, with its LF; lines, one behind the other
--     open_line s              the line that opens an area with the role count and in the policy state of s
--     row_requests, row_lines  the lines of a row in a policy state, as requests and as text
--     printed s                all lines of a state
use Rattle.std.specs.Prelude.{cond, List, [], ◌∷◌, ◌++◌, ℕ, eqb}
use Rattle.meaning.specs.declared.Happening.{Happening}
use Rattle.meaning.specs.declared.Happening.TheVariants.{Allow, Deny}
use Rattle.meaning.specs.Rows.{Row}
use Rattle.area.specs.State.{Entry, State, each}
use Rattle.text.specs.Ascii.{lf}
use Rattle.requests.specs.declared.Request.{Request}
use Rattle.requests.specs.declared.Request.TheVariants.{Open}
use Rattle.requests.specs.Request.{request_text, told}

-- ---- the replies that tell of a row

abbrev pub denials : ℕ → List Happening
denials d = cond (eqb d 0) [] (Deny (record { bits = d }) ∷ [])

abbrev pub allows : List ℕ → List Happening
allows [] = []
allows (o ∷ l) = Allow (record { bits = o }) ∷ allows l

abbrev pub replies_of : Row → List Happening
replies_of w = denials w.denied ++ allows w.opens

-- ---- as lines

abbrev pub tells : ℕ → List Happening → ℕ → List Request
tells p [] g = []
tells p (e ∷ es) g = told p e g ∷ tells p es g

unfoldable pub line_of : Request → List ℕ
line_of q = request_text q ++ lf ∷ []

unfoldable pub lines_text : List Request → List ℕ
lines_text [] = []
lines_text (q ∷ qs) = line_of q ++ lines_text qs

abbrev pub open_line : State → List ℕ
open_line s = line_of (Open s.roles s.policy)

abbrev pub row_requests : ℕ → Entry → List Request
row_requests g e = tells e.permission (replies_of e.row) g

unfoldable pub row_lines : ℕ → Entry → List ℕ
row_lines g e = lines_text (row_requests g e)

unfoldable pub printed : State → List ℕ
printed s = open_line s ++ each (row_lines s.policy) s.rows
