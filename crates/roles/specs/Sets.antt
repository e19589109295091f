-- Role sets as numbers: role r is the bit of weight 2 ^ r. Definitions only; the laws are in `proofs/`.
--     most_roles         so many roles there may be
--     last_role          the last of them
--     has s r, In s r    role r is in s
--     single r           the set of the role r alone
--     all_below n        the set of all roles below n
--     Below n s          all roles of s lie below n
--     below64 s          the roles of s below 64: all that a `RoleSet` can hold
--     part_of s t        every role of s is in t
--     shares s t         some role is in both
--     joined s t         the roles of either
--     common s t         the roles of both
--     without s t        the roles of s that are not in t
--     set_of l           the set of the roles of a list
--     lowest s           the lowest role of s, and 64 where it has none below 64
--     outside s t        the lowest role of s that is not in t, and 64 where there is none below 64
--     role_named r       the role r, and none where r is 64
--     roles_from k r s   the roles of s among the k from r on, ascending
--     roles_of s         the roles of s, ascending
--     Names s t r        r is 64 exactly where s is part of t; else it is the lowest role that is in s and not in t
use Rattle.std.specs.Prelude.{◌≡◌, Bool, not, cond, List, [], ◌∷◌, Option, None, Some, ◌↔◌, ◌≢◌, ℕ, zero, suc, ◌-◌, ◌/◌, ◌%◌, ◌^◌, ◌<◌, T, eqb}
use Rattle.std.specs.Int.Bits.{bit_and, bit_or, bit_xor}
use Rattle.std.specs.Int.Count.{count_trailing_zeros}

abbrev pub most_roles : ℕ
most_roles = 64

abbrev pub last_role : ℕ
last_role = most_roles - 1

unfoldable pub has : ℕ → ℕ → Bool
has s r = eqb (s / 2 ^ r % 2) 1

abbrev pub In : ℕ → ℕ → Type 0
In s r = T (has s r)

unfoldable pub single : ℕ → ℕ
single r = 2 ^ r

unfoldable pub all_below : ℕ → ℕ
all_below n = 2 ^ n - 1

abbrev pub Below : ℕ → ℕ → Type 0
Below n s = s < 2 ^ n

unfoldable pub below64 : ℕ → ℕ
below64 s = s % 2 ^ most_roles

unfoldable pub joined : ℕ → ℕ → ℕ
joined s t = bit_or s t

unfoldable pub common : ℕ → ℕ → ℕ
common s t = bit_and s t

unfoldable pub without : ℕ → ℕ → ℕ
without s t = bit_xor s (common s t)

unfoldable pub set_of : List ℕ → ℕ
set_of [] = 0
set_of (r ∷ l) = joined (single r) (set_of l)

unfoldable pub shares : ℕ → ℕ → Bool
shares s t = not (eqb (common s t) 0)

unfoldable pub part_of : ℕ → ℕ → Bool
part_of s t = eqb (without s t) 0

unfoldable pub lowest : ℕ → ℕ
lowest s = count_trailing_zeros most_roles s

unfoldable pub outside : ℕ → ℕ → ℕ
outside s t = lowest (without s t)

unfoldable pub role_named : ℕ → Option ℕ
role_named r = cond (eqb r most_roles) None (Some r)

unfoldable pub roles_from : ℕ → ℕ → ℕ → List ℕ
roles_from zero r s = []
roles_from (suc k) r s = cond (has s r) (r ∷ roles_from k (suc r) s) (roles_from k (suc r) s)

unfoldable pub roles_of : ℕ → List ℕ
roles_of s = roles_from most_roles 0 s

pub record Names (s t r : ℕ) : Type 0 where
  pub part : (r ≡ most_roles) ↔ T (part_of s t)
  pub named : r ≢ most_roles → In s r × ¬ (In t r)
  pub first : (q : ℕ) → q < r → In s q → In t q
