-- What is asked for, by the arguments.
--     say_sheet, say_names  `sheet`, `names`
--     Chosen k w r          of k arguments, the program's own name among them, w the first: r is what is asked for
use Rattle.std.specs.Prelude.{◌≡◌, List, [], ◌∷◌, ◌↔◌, ℕ}
use Rattle.wall.specs.declared.Asked.{Asked}
use Rattle.wall.specs.declared.Asked.TheVariants.{Sheet, SheetNamed, Names}

abbrev pub say_sheet : List ℕ
say_sheet = 115 ∷ 104 ∷ 101 ∷ 101 ∷ 116 ∷ []

abbrev pub say_names : List ℕ
say_names = 110 ∷ 97 ∷ 109 ∷ 101 ∷ 115 ∷ []

pub record Chosen (k : ℕ) (w : List ℕ) (r : Asked) : Type 0 where
  pub sheet : (r ≡ Sheet) ↔ ((k ≡ 5) × (w ≡ say_sheet))
  pub sheet-named : (r ≡ SheetNamed) ↔ ((k ≡ 6) × (w ≡ say_sheet))
  pub names : (r ≡ Names) ↔ ((k ≡ 2) × (w ≡ say_names))
