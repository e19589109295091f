-- The sheet for one permission, as text: four lines, each begun by a word, with a space before each name and word.
--     denied_word, ..             the words, as bytes
--     name_text works standard r  role r as it is shown: its name, or where no table names it, its number
--     shown_by n r              the same by the tables that the names n are of
--     alone s, larger s           s has one role; or not: of open sets, none of which is empty, those of more roles
--     denied_roles w              the denied roles of the row w, ascending
--     proved_roles w              those that are an open set alone, in the order of the open sets
--     open_sets w                 the larger open sets, in their order
--     roles_of_all l              the roles of each set of a list, one set behind the other
--     names_text f l              the roles of a list, each as f shows it, a space before each
--     parting, parted_text f later l    sets with ` ;` between them, and before the first too where others came before
--     answer_word v               the word of the answer v to a session
--     line word t                 the line of a word and the text behind it
--     sheet_lines f w v           the sheet of the row w and the answer v
--     sheet_text f w s            the sheet of the row w for the session s
use Rattle.std.specs.Prelude.{Bool, true, false, not, cond, List, [], ◌∷◌, ◌++◌, ℕ, eqb, length}
use Rattle.meaning.specs.Lists.{keep}
use Rattle.meaning.specs.Rows.{Row, decide}
use Rattle.text.specs.Ascii.{semicolon, space, lf}
use Rattle.text.specs.Number.{number_text}
use Rattle.roles.specs.Sets.{roles_of}
use Rattle.names.specs.Names.{name_of}
use Rattle.names.specs.declared.Names.{Names}

abbrev pub denied_word : List ℕ
denied_word = 100 ∷ 101 ∷ 110 ∷ 105 ∷ 101 ∷ 100 ∷ []

abbrev pub proved_word : List ℕ
proved_word = 112 ∷ 114 ∷ 111 ∷ 118 ∷ 101 ∷ 100 ∷ []

abbrev pub open_word : List ℕ
open_word = 111 ∷ 112 ∷ 101 ∷ 110 ∷ []

abbrev pub verdict_word : List ℕ
verdict_word = 118 ∷ 101 ∷ 114 ∷ 100 ∷ 105 ∷ 99 ∷ 116 ∷ []

abbrev pub deny_word : List ℕ
deny_word = 100 ∷ 101 ∷ 110 ∷ 121 ∷ []

abbrev pub allow_word : List ℕ
allow_word = 97 ∷ 108 ∷ 108 ∷ 111 ∷ 119 ∷ []

abbrev pub undecided_word : List ℕ
undecided_word = 117 ∷ 110 ∷ 100 ∷ 101 ∷ 99 ∷ 105 ∷ 100 ∷ 101 ∷ 100 ∷ []

-- ---- what is shown of a row

unfoldable pub alone : ℕ → Bool
alone s = eqb (length (roles_of s)) 1

abbrev pub larger : ℕ → Bool
larger s = not (alone s)

unfoldable pub roles_of_all : List ℕ → List ℕ
roles_of_all [] = []
roles_of_all (s ∷ l) = roles_of s ++ roles_of_all l

abbrev pub denied_roles : Row → List ℕ
denied_roles w = roles_of w.denied

abbrev pub proved_roles : Row → List ℕ
proved_roles w = roles_of_all (keep alone w.opens)

abbrev pub open_sets : Row → List ℕ
open_sets w = keep larger w.opens

-- ---- as text

unfoldable pub name_text : List ℕ → List ℕ → ℕ → List ℕ
name_text works standard r = cond (eqb (length (name_of works standard r)) 0) (number_text r) (name_of works standard r)

abbrev pub shown_by : Names → ℕ → List ℕ
shown_by n = name_text n.works.now n.standard.now

unfoldable pub names_text : (ℕ → List ℕ) → List ℕ → List ℕ
names_text f [] = []
names_text f (r ∷ l) = (space ∷ f r) ++ names_text f l

abbrev pub parting : Bool → List ℕ
parting later = cond later (space ∷ semicolon ∷ []) []

unfoldable pub parted_text : (ℕ → List ℕ) → Bool → List ℕ → List ℕ
parted_text f later [] = []
parted_text f later (s ∷ l) = (parting later ++ names_text f (roles_of s)) ++ parted_text f true l

abbrev pub answer_word : ℕ → List ℕ
answer_word v = cond (eqb v 10) deny_word (cond (eqb v 11) allow_word undecided_word)

abbrev pub line : List ℕ → List ℕ → List ℕ
line word t = word ++ t ++ lf ∷ []

unfoldable pub sheet_lines : (ℕ → List ℕ) → Row → ℕ → List ℕ
sheet_lines f w v =
    line denied_word (names_text f (denied_roles w))
    ++ line proved_word (names_text f (proved_roles w))
    ++ line open_word (parted_text f false (open_sets w))
    ++ line verdict_word (space ∷ answer_word v)

abbrev pub sheet_text : (ℕ → List ℕ) → Row → ℕ → List ℕ
sheet_text f w s = sheet_lines f w (decide w s).answer
