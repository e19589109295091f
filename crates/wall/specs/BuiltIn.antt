-- What is proved of the standard names.
--     BuiltIn    no line of their list is refused, and their table is good; so a sheet is answered 17 only for the works' own table, and never where
--                that is one without names
use Rattle.std.specs.Prelude.{◌≡◌, List, ◌≢◌, ℕ, T}
use Rattle.names.specs.Names.{good_table}
use Rattle.names.specs.Naming.{BadTable}
use Rattle.listing.specs.Listing.{no_names, listing}
use Rattle.sheet.specs.Sheet.{sheet_of}
use Rattle.wall.specs.Standard.{standard_list, standard_table}

pub record BuiltIn : Type 0 where
  pub none-refused : (listing standard_list).line ≡ 0
  pub good : T (good_table standard_table)
  pub whose : (l works : List ℕ) (p s : ℕ) (d : List ℕ) → (sheet_of l works standard_table p s d).answer ≡ 17 → BadTable works
  pub no_table : (l : List ℕ) (p s : ℕ) (d : List ℕ) → (sheet_of l no_names standard_table p s d).answer ≢ 17
