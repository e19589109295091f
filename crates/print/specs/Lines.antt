-- The line of a reply, for the function that writes it.
--     reply_line c p s g   the letter c, ` p set state`, LF
use Rattle.std.specs.Prelude.{List, [], ◌∷◌, ◌++◌, ℕ}
use Rattle.text.specs.Ascii.{lf}
use Rattle.requests.specs.Request.{spaced, spaced_set}

abbrev pub reply_line : ℕ → ℕ → ℕ → ℕ → List ℕ
reply_line c p s g = (c ∷ (spaced p ++ (spaced_set (record { bits = s }) ++ spaced g))) ++ lf ∷ []
