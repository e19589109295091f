-- Where a line ends.
--     before_lf bs   how many bytes stand before the first LF; all of them where there is none
use Rattle.std.specs.Prelude.{cond, List, [], ◌∷◌, ℕ, suc, eqb}
use Rattle.text.specs.Ascii.{lf}

unfoldable pub before_lf : List ℕ → ℕ
before_lf [] = 0
before_lf (b ∷ bs) = cond (eqb b lf) 0 (suc (before_lf bs))
