-- Good open sets: the rules for the open sets of a row (Rules, The lent area), in the first of its places. Throughout, `all` is the
-- set of all roles below n: a set has only such roles exactly when it is at most `all`.
--     all_of bs               all of the rules hold
--     below_first o l         o is below the first of l
--     open_rules all d o l    the rules for an open set o before those of l, where d is the denied set
--     opens_good all d l      they hold for each of l
--     places_good all d c l   the first c of the places l have good open sets, and the others nothing
--     says d c                something is denied, or there is an open set
--     body_good all d c l     it is so of a body, the denied set d and the places l, and the places are good
--     few_opens               up to so many open sets are few
use Rattle.std.specs.Prelude.{Bool, true, not, ◌&&◌, ◌||◌, List, [], ◌∷◌, ℕ, eqb, ltb, leb, take, drop}
use Rattle.words.specs.Words.{all_zero}
use Rattle.roles.specs.Sets.{shares, part_of}
use Rattle.meaning.specs.Lists.{any}

abbrev pub all_of : List Bool → Bool
all_of [] = true
all_of (b ∷ bs) = b && all_of bs

abbrev pub below_first : ℕ → List ℕ → Bool
below_first o [] = true
below_first o (p ∷ l) = ltb o p

-- nonempty, of roles below n, sharing no role with the denied set, below the next, part of no later one (nor of an earlier
-- one, which is smaller)
abbrev pub open_rules : ℕ → ℕ → ℕ → List ℕ → List Bool
open_rules all d o l = not (eqb o 0) ∷ leb o all ∷ not (shares o d) ∷ below_first o l ∷ not (any (part_of o) l) ∷ []

unfoldable pub opens_good : ℕ → ℕ → List ℕ → Bool
opens_good all d [] = true
opens_good all d (o ∷ l) = opens_good all d l && all_of (open_rules all d o l)

unfoldable pub places_good : ℕ → ℕ → ℕ → List ℕ → Bool
places_good all d c l = opens_good all d (take c l) && all_zero (drop c l)

abbrev pub says : ℕ → ℕ → Bool
says d c = not (eqb d 0) || not (eqb c 0)

unfoldable pub body_good : ℕ → ℕ → ℕ → List ℕ → Bool
body_good all d c l = says d c && places_good all d c l

abbrev pub few_opens : ℕ
few_opens = 10
