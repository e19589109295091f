-- A table of which only the first 65,567 bytes are kept is as good, and names alike: a start has 16 bits, and a name 32 bytes. Assumes nothing.
use mathlib.Core.Path.{◌≡◌, refl, ap}
use mathlib.Core.Bool.{◌&&◌}
use mathlib.Core.List.{List, [], ◌∷◌}
use mathlib.Core.Logic.{by_cases}
use Prim.Native.Nat.{ℕ, zero, suc, ◌+◌, ◌*◌, ◌≤◌, ◌<◌}
use native.Mathlib.Decide.{dec_lt}
use native.Mathlib.Omega.{arith}
use borrow.Author.Tests.{le-leb, lt-leb}
use lib.ListN.{length, get_or, take, drop}
use lib.Seq.{length-take-le, take_all, take-take, get_or-take}
use Rattle.roles.specs.Sets.{most_roles}
use Rattle.names.specs.Names.{contents_bytes, most_name, half, start_of, length_of, good_pair, good_pairs, good_table, part_at}

-- a part that lies within what is kept
part-take : (m k n : ℕ) (l : List ℕ) → k + m ≤ n → take m (drop k (take n l)) ≡ take m (drop k l)
part-take m zero n l h = take-take m n l (omega arith)
part-take m (suc k) zero l h = absurd (omega arith)
part-take m (suc k) (suc n) [] h = refl
part-take m (suc k) (suc n) (x ∷ l) h = part-take m k n l (omega arith)

module _ (t : List ℕ) (bytes : (k : ℕ) → get_or t k 0 ≤ 255) (n : ℕ) (reach : 65567 ≤ n) where
  half-cut : (k : ℕ) → k ≤ 254 → half (take n t) k ≡ half t k
  half-cut k h = rw (get_or-take n t k 0 (omega arith), get_or-take n t (k + 1) 0 (omega arith))

  module _ (r : ℕ) (h : r < most_roles) where
    start-cut : start_of (take n t) r ≡ start_of t r
    unfolding start_of
    start-cut = half-cut (r * 4) (omega arith)

    pub length_cut : length_of (take n t) r ≡ length_of t r
    unfolding length_of
    length_cut = half-cut (r * 4 + 2) (omega arith)

    start_small : start_of t r ≤ 65535
    unfolding start_of
    start_small = omega (arith, bytes (r * 4), bytes (r * 4 + 1))

    -- a name that is short enough lies inside, before and after
    pair-cut : n < length t → good_pair (take n t) r ≡ good_pair t r
    unfolding good_pair
    pair-cut long = rw (length_cut, start-cut, length-take-le n t (omega arith)) (by_cases (dec_lt most_name (length_of t r))
        (λ q. rw (lt-leb (length_of t r) most_name q) refl)
        (λ q. let s = start_small in rw (le-leb (start_of t r + length_of t r) n (omega arith), le-leb (start_of t r + length_of t r) (length t) (omega arith)) refl))

    pub part_cut : length_of t r ≤ most_name → part_at (take n t) r ≡ part_at t r
    unfolding part_at
    part_cut q = let s = start_small in rw (length_cut, start-cut) (part-take (length_of t r) (start_of t r) n t (omega arith))

  pairs-cut : n < length t → (m : ℕ) → m ≤ most_roles → good_pairs m (take n t) ≡ good_pairs m t
  unfolding good_pairs
  pairs-cut long zero h = refl
  pairs-cut long (suc m) h = λ i. pairs-cut long m (omega arith) i && pair-cut m (omega arith) long i

  longer-cut : n < length t → good_table (take n t) ≡ good_table t
  unfolding good_table
  longer-cut q = rw (length-take-le n t (omega arith), le-leb contents_bytes n (omega arith), le-leb contents_bytes (length t) (omega arith)) (pairs-cut q most_roles (omega arith))

  pub table-cut : good_table (take n t) ≡ good_table t
  table-cut = by_cases (dec_lt n (length t)) longer-cut (λ q. ap good_table (take_all n t (omega arith)))
