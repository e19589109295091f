-- What is known of a permission's first row, for the function that puts it.
--     Fresh e w        w is the row after e of a permission without one, where e agrees and fits
use Rattle.std.specs.Prelude.{◌≡◌, not, T}
use Rattle.meaning.specs.declared.Happening.{Happening}
use Rattle.meaning.specs.Rows.{blank, fits, contradicts, step}
use Rattle.rows.specs.declared.Row.{Row}
use Rattle.rows.specs.Stored.{stored_row}

pub record Fresh (e : Happening) (w : Row) : Type 0 where
  pub agrees : T (not (contradicts e blank))
  pub room : T (fits (step e blank))
  pub row : w ≡ stored_row (step e blank)
