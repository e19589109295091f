-- The standard names. Assumes nothing.
use mathlib.Core.Path.{◌≡◌, refl}
use mathlib.Core.Bool.{Bool, true, false, not}
use mathlib.Core.List.{List, []}
use mathlib.Core.Logic.{◌⊎◌, inl, inr}
use Prim.Native.Nat.{ℕ}
use native.Mathlib.Omega.{arith}
use lib.Dec.{T}
use Rattle.text.specs.Number.{is_digit, digit_next, next_is, read_more, read_number}
use Rattle.names.specs.Names.{length_of, good_table}
use Rattle.names.specs.Naming.{BadTable}
use Rattle.names.proofs.Theorems.{naming}
use Rattle.listing.specs.Listing.{in_front, list_lines, is_name, name_behind, read_line, named, takes, taken, table_from, no_names, listing}
use Rattle.listing.proofs.Theorems.{tables-made}
use Rattle.sheet.specs.Sheet.{sheet_of}
use Rattle.sheet.proofs.Theorems.{sheets}
use Rattle.wall.specs.Standard.{standard_list, standard_table}
use Rattle.wall.specs.BuiltIn.{BuiltIn}

-- computed, line by line
none-refused : (listing standard_list).line ≡ 0
unfolding standard_list is_digit digit_next next_is read_more read_number length_of in_front list_lines is_name name_behind read_line named takes taken table_from listing
none-refused = refl

standard-good : T (good_table standard_table)
unfolding standard_table
standard-good = tables-made.good standard_list

none-good : T (good_table no_names)
unfolding list_lines table_from listing
none-good = tables-made.good []

-- a table is good or bad
not-both : (t : List ℕ) → T (good_table t) → ¬ (BadTable t)
not-both t g b = go (good_table t) g ((naming.refused t).1 b)
  where
    go : (x : Bool) → T x → ¬ (T (not x))
    go true u v = v
    go false u v = u

whose : (l works : List ℕ) (p s : ℕ) (d : List ℕ) → (sheet_of l works standard_table p s d).answer ≡ 17 → BadTable works
whose l works p s d e =
    let x = (sheets.answers l works standard_table p s d).exactly in
    of_two ((x.1 (λ h. omega (arith, x.0.1 h, e))).0.0 e)
  where
    of_two : BadTable works ⊎ BadTable standard_table → BadTable works
    of_two (inl b) = b
    of_two (inr b) = absurd (not-both standard_table standard-good b)

pub built_in : BuiltIn
built_in = record {
  none-refused = none-refused;
  good = standard-good;
  whose = whose;
  no_table = λ l p s d e. not-both no_names none-good (whose l no_names p s d e);
}
