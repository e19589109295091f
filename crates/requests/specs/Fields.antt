-- The fields behind a line's letter. `k` says what comes of fields that read, and `other` is given where they do not.
--     last_count                   the largest n that a line can say
--     field_of t                   the bytes behind the space that t begins with; without a space none, in which no field reads
--     got other k g                `k` of what was found
--     ended other a t              a, if the line ends here
--     number_then other k limit t  `k v u` of the text ` v`, v at most the limit, and u behind it
--     set_then other k t           `k s u` of the text ` set`, and u behind it
--     last_number other k limit t  `k v` of the text ` v` to the end of the line
--     permission_set other k t     `k p s u` of the text ` p set`, and u behind it
--     permission_role other k t    `k p r u` of the text ` p r`, and u behind it
--     permission_set_field line t, permission_role_field line t    the same as the code has it: the place behind the text stands for u
use Rattle.std.specs.Prelude.{cond, List, [], ◌∷◌, ℕ, ◌-◌, length, drop, Option, Some, None}
use Rattle.roles.specs.declared.RoleSet.{RoleSet}
use Rattle.roles.specs.Sets.{last_role}
use Rattle.meaning.specs.Events.{last_permission}
use Rattle.text.specs.Ascii.{space}
use Rattle.text.specs.Number.{Got, found, bad, next_is, read_number}
use Rattle.text.specs.Set.{read_set}

abbrev pub last_count : ℕ
last_count = 255

unfoldable pub field_of : List ℕ → List ℕ
field_of t = cond (next_is space t) (drop 1 t) []

abbrev pub got : {A : Type 0} → A → (ℕ → List ℕ → A) → Got → A
got other k (found v t) = k v t
got other k bad = other

abbrev pub ended : {A : Type 0} → A → A → List ℕ → A
ended other a [] = a
ended other a (c ∷ t) = other

unfoldable pub number_then : {A : Type 0} → A → (ℕ → List ℕ → A) → ℕ → List ℕ → A
number_then other k limit t = got other k (read_number limit (field_of t))

unfoldable pub set_then : {A : Type 0} → A → (RoleSet → List ℕ → A) → List ℕ → A
set_then other k t = got other (λ s u. k (record { bits = s }) u) (read_set (field_of t))

unfoldable pub last_number : {A : Type 0} → A → (ℕ → A) → ℕ → List ℕ → A
last_number other k limit t = number_then other (λ v u. ended other (k v) u) limit t

unfoldable pub permission_set : {A : Type 0} → A → (ℕ → RoleSet → List ℕ → A) → List ℕ → A
permission_set other k t = number_then other (λ p u. set_then other (k p) u) last_permission t

unfoldable pub permission_role : {A : Type 0} → A → (ℕ → ℕ → List ℕ → A) → List ℕ → A
permission_role other k t = number_then other (λ p u. number_then other (k p) last_role u) last_permission t

abbrev pub permission_set_field : List ℕ → List ℕ → Option (ℕ × RoleSet × ℕ)
permission_set_field line t = permission_set None (λ p s u. Some (p, s, length line - length u)) t

abbrev pub permission_role_field : List ℕ → List ℕ → Option (ℕ × ℕ × ℕ)
permission_role_field line t = permission_role None (λ p r u. Some (p, r, length line - length u)) t
