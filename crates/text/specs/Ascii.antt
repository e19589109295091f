-- The bytes that texts are made of, by name.
--     digit_zero, digit_nine  `0` and `9`; the digits stand between them
--     comma                   parts the roles of a set
--     minus                   the empty set
--     semicolon               parts open sets on a sheet
--     space                   parts the fields of a line
--     lf                      ends a line
--     Lacks b t               the byte b is nowhere in t
use Rattle.std.specs.Prelude.{List, [], ◌∷◌, ◌≢◌, ℕ}

abbrev pub digit_zero : ℕ
digit_zero = 48

abbrev pub digit_nine : ℕ
digit_nine = 57

abbrev pub comma : ℕ
comma = 44

abbrev pub minus : ℕ
minus = 45

abbrev pub semicolon : ℕ
semicolon = 59

abbrev pub space : ℕ
space = 32

abbrev pub lf : ℕ
lf = 10

abbrev pub Lacks : ℕ → List ℕ → Type 0
Lacks b [] = Unit {0}
Lacks b (c ∷ t) = (c ≢ b) × Lacks b t
