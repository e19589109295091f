-- Parts of the rules, which functions test one by one.
--     stand_apart l        no set of the list is part of a later one
--     union_of l           the roles of all sets of the list
--     each_outside l       each set of the list has a role outside the union of the later ones
--     opens_sure all d l   good open sets beside the denied set d, each with a role outside the union of the later ones
use Rattle.std.specs.Prelude.{Bool, true, not, ◌&&◌, List, [], ◌∷◌, ℕ}
use Rattle.roles.specs.Sets.{part_of, joined}
use Rattle.meaning.specs.Lists.{any}
use Rattle.opens.specs.Opens.{opens_good}

unfoldable pub stand_apart : List ℕ → Bool
stand_apart [] = true
stand_apart (o ∷ l) = not (any (part_of o) l) && stand_apart l

unfoldable pub union_of : List ℕ → ℕ
union_of [] = 0
union_of (o ∷ l) = joined o (union_of l)

unfoldable pub each_outside : List ℕ → Bool
each_outside [] = true
each_outside (o ∷ l) = each_outside l && not (part_of o (union_of l))

unfoldable pub opens_sure : ℕ → ℕ → List ℕ → Bool
opens_sure all d l = opens_good all d l && each_outside l
