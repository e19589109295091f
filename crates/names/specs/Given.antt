-- The names that two lent tables give.
--     MadeOf works standard o    where both tables are good, o has the names of these two; else it has none
use Rattle.std.specs.Prelude.{◌≡◌, List, ℕ, Option, Some, None}
use Rattle.std.specs.Borrow.{Bor}
use Rattle.names.specs.Names.{Tables}
use Rattle.names.specs.declared.Names.{Names}

abbrev pub MadeOf : Bor (List ℕ) → Bor (List ℕ) → Option Names → Type 0
MadeOf works standard (Some n) = (n.works ≡ works) × (n.standard ≡ standard)
MadeOf works standard None = ¬ (Tables works.now standard.now)
