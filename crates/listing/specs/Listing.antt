-- A list of names, and the name table made of it. A line is a role, a space and a name; the names go behind the contents, in the order of the
-- lines.
--     list_lines s       the lines of the bytes s: each ends with LF, and a last one without LF counts if it is not empty
--     in_front b ls      the byte b in front of the first of the lines
--     is_name n          1 to 32 bytes
--     name_behind g      behind a role that was read: a space, and a name that is the rest
--     read_line l        what a line reads as: `found` with its role and its name, or `bad`
--     pair_bytes a n     the pair of start a and length n: 16 bits each, least byte first
--     named t r n        the table t with one name more: it stands behind the table, and the pair of role r says where
--     takes t g          the table t takes a line that reads as g: it reads, and its role has no name yet
--     taken t g          and then it has that name
--     Made, made k t     a table, and the number of the line that was refused; 0 where all were taken
--     table_from k t ls  the lines taken into the table t, one after the other, up to one that is refused; the first has the number k
--     no_names           a table without names
--     most_table         no table that is made has more bytes: the contents, and a longest name for each role
--     listing s          the table made of the bytes s
--     listed m           m as the code gives it: how many bytes the table has, or the line that was refused and how many it has before it
--     bytes_of r         how many bytes the table has, by the result r
--     Lists m r d e      the result r is that of m, and the bytes e are d with the table from the first on
use Rattle.std.specs.Prelude.{◌≡◌, Bool, false, cond, ◌&&◌, List, [], ◌∷◌, ◌++◌, ℕ, suc, ◌+◌, ◌*◌, ◌/◌, ◌%◌, eqb, leb, length, drop, replicate, Result, Ok, Err}
use Rattle.std.proofs.lemmas.List.Edits.{sets}
use Rattle.roles.specs.Sets.{most_roles, last_role}
use Rattle.text.specs.Ascii.{space, lf}
use Rattle.text.specs.Number.{Got, found, bad, next_is, read_number}
use Rattle.names.specs.Names.{contents_bytes, most_name, length_of}
use Rattle.listing.specs.declared.Refused.{Refused}

-- ---- lines

unfoldable pub in_front : ℕ → List (List ℕ) → List (List ℕ)
in_front b [] = (b ∷ []) ∷ []
in_front b (l ∷ ls) = (b ∷ l) ∷ ls

unfoldable pub list_lines : List ℕ → List (List ℕ)
list_lines [] = []
list_lines (b ∷ s) = cond (eqb b lf) ([] ∷ list_lines s) (in_front b (list_lines s))

-- ---- a line

unfoldable pub is_name : List ℕ → Bool
is_name n = leb 1 (length n) && leb (length n) most_name

unfoldable pub name_behind : Got → Got
name_behind bad = bad
name_behind (found r t) = cond (next_is space t && is_name (drop 1 t)) (found r (drop 1 t)) bad

unfoldable pub read_line : List ℕ → Got
read_line l = name_behind (read_number last_role l)

-- ---- the table

abbrev pub pair_bytes : ℕ → ℕ → List ℕ
pair_bytes a n = a % 256 ∷ a / 256 ∷ n % 256 ∷ n / 256 ∷ []

unfoldable pub named : List ℕ → ℕ → List ℕ → List ℕ
named t r n = sets t (r * 4) (pair_bytes (length t) (length n)) ++ n

unfoldable pub takes : List ℕ → Got → Bool
takes t bad = false
takes t (found r n) = eqb (length_of t r) 0

unfoldable pub taken : List ℕ → Got → List ℕ
taken t bad = t
taken t (found r n) = named t r n

pub record Made : Type 0 where
  pub line : ℕ
  pub table : List ℕ

abbrev pub made : ℕ → List ℕ → Made
made k t = record { line = k; table = t }

unfoldable pub table_from : ℕ → List ℕ → List (List ℕ) → Made
table_from k t [] = made 0 t
table_from k t (l ∷ ls) = cond (takes t (read_line l)) (table_from (suc k) (taken t (read_line l)) ls) (made k t)

abbrev pub no_names : List ℕ
no_names = replicate contents_bytes 0

abbrev pub most_table : ℕ
most_table = contents_bytes + most_roles * most_name

unfoldable pub listing : List ℕ → Made
listing s = table_from 1 no_names (list_lines s)

-- ---- as the code gives it

abbrev pub listed : Made → Result ℕ Refused
listed m = cond (eqb m.line 0) (Ok (length m.table)) (Err (record { line = m.line; bytes = length m.table }))

abbrev pub bytes_of : Result ℕ Refused → ℕ
bytes_of (Ok n) = n
bytes_of (Err r) = r.bytes

pub record Lists (m : Made) (r : Result ℕ Refused) (d e : List ℕ) : Type 0 where
  pub result : r ≡ listed m
  pub out : e ≡ sets d 0 m.table
