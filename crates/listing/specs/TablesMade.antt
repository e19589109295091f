-- What is proved of lists of names and of the tables made of them. Lines are counted from 0 on here, so the line j has the number j + 1.
--     SaysAt ls j r n   the line j says that n is the name of role r
--     WrongAt ls j      the line j does not read, or a line before it says a name of its role
--     two_names         a list of two lines, `1 op` and `0 x`
--     two_table         its table: the pairs of role 0 and 1, those of the others, and `opx`
--     TablesMade        where lines end, and what each reads as; which line is refused, and that one is in every list of over 2,304 bytes; the table of
--                       a list is good, and where no line is refused it has the names that the lines say, and no other; the contract allows one
--                       outcome; the table of two lines, byte by byte
use Rattle.std.specs.Prelude.{◌≡◌, List, [], ◌∷◌, ◌++◌, ◌↔◌, ◌⊎◌, ℕ, suc, ◌≤◌, ◌<◌, T, length, get_or, replicate, Result}
use Rattle.text.specs.Ascii.{space, lf, Lacks}
use Rattle.text.specs.Number.{number_text, found, bad}
use Rattle.names.specs.Names.{length_of, good_table, part_at}
use Rattle.listing.specs.Listing.{list_lines, read_line, Made, made, listing, Lists}
use Rattle.listing.specs.declared.Refused.{Refused}

abbrev pub SaysAt : List (List ℕ) → ℕ → ℕ → List ℕ → Type 0
SaysAt ls j r n = (j < length ls) × (read_line (get_or ls j []) ≡ found r n)

abbrev pub WrongAt : List (List ℕ) → ℕ → Type 0
WrongAt ls j =
    (j < length ls)
    × ((read_line (get_or ls j []) ≡ bad) ⊎ ((r : ℕ) × (n m : List ℕ) × (i : ℕ) × (i < j) × SaysAt ls j r n × SaysAt ls i r m))

abbrev pub two_names : List ℕ
two_names = 49 ∷ 32 ∷ 111 ∷ 112 ∷ 10 ∷ 48 ∷ 32 ∷ 120 ∷ 10 ∷ []

abbrev pub two_table : List ℕ
two_table = (2 ∷ 1 ∷ 1 ∷ 0 ∷ []) ++ ((0 ∷ 1 ∷ 2 ∷ 0 ∷ []) ++ (replicate 248 0 ++ (111 ∷ 112 ∷ 120 ∷ [])))

pub record TablesMade : Type 0 where
  pub no_line : list_lines [] ≡ []
  pub line-ends : (t s : List ℕ) → Lacks lf t → list_lines (t ++ lf ∷ s) ≡ t ∷ list_lines s
  pub last_line : (t : List ℕ) → Lacks lf t → 1 ≤ length t → list_lines t ≡ t ∷ []
  pub line_reads : (l : List ℕ) (r : ℕ) (n : List ℕ)
      → (read_line l ≡ found r n) ↔ ((l ≡ number_text r ++ space ∷ n) × (r < 64) × (1 ≤ length n) × (length n ≤ 32))
  pub all-taken : (s : List ℕ) → ((listing s).line ≡ 0) ↔ ((j : ℕ) → ¬ (WrongAt (list_lines s) j))
  pub refused : (s : List ℕ) (j : ℕ) → ((listing s).line ≡ suc j) ↔ (WrongAt (list_lines s) j × ((i : ℕ) → i < j → ¬ (WrongAt (list_lines s) i)))
  pub good : (s : List ℕ) → T (good_table (listing s).table)
  pub short : (s : List ℕ) → length (listing s).table ≤ 2304
  pub taken-short : (s : List ℕ) → (listing s).line ≡ 0 → length s ≤ 2304
  pub names : (s : List ℕ) → (listing s).line ≡ 0 → (j r : ℕ) (n : List ℕ) → SaysAt (list_lines s) j r n → part_at (listing s).table r ≡ n
  pub nameless : (s : List ℕ) → (listing s).line ≡ 0 → (r : ℕ) → r < 64 → ((j : ℕ) (n : List ℕ) → ¬ (SaysAt (list_lines s) j r n)) → length_of (listing s).table r ≡ 0
  pub one-outcome : (m : Made) (r q : Result ℕ Refused) (d e f : List ℕ) → Lists m r d e → Lists m q d f → (r ≡ q) × (e ≡ f)
  pub two-names : listing two_names ≡ made 0 two_table
