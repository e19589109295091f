-- What a reading gives, as the code has it: the value, and the place behind its text, which stands for the bytes behind it.
--     field make line g     g, found in the line, as an `Option`; `make` makes the code's value of that of g
--     number_field line g   the same of a number
--     set_field line g      the same of a set
use Rattle.std.specs.Prelude.{List, ℕ, ◌-◌, length, Option, Some, None}
use Rattle.roles.specs.declared.RoleSet.{RoleSet}
use Rattle.text.specs.Number.{Got, found, bad}

abbrev pub field : {A : Type 0} → (ℕ → A) → List ℕ → Got → Option (A × ℕ)
field make line (found v rest) = Some (make v, length line - length rest)
field make line bad = None

abbrev pub number_field : List ℕ → Got → Option (ℕ × ℕ)
number_field line g = field (λ v. v) line g

abbrev pub set_field : List ℕ → Got → Option (RoleSet × ℕ)
set_field line g = field (λ s. record { bits = s }) line g
