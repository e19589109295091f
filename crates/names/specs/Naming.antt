-- What is proved of name tables.
--     BadPair t r      a nonzero length that is too long, or runs outside the table
--     BadTable t       shorter than its contents, or with such a pair among the 64
--     Naming           a table is refused exactly on that ground; the name of a role is the works' own, else the standard one, and is empty exactly
--                      where neither table names it; of a table of bytes no more than the first 65,567 can be reached; of a role with a name any
--                      two returned slices have the same bytes at the same place
use Rattle.std.specs.Prelude.{◌≡◌, not, List, [], ◌↔◌, ◌≢◌, ◌⊎◌, ℕ, ◌+◌, ◌≤◌, ◌<◌, T, length, get_or, take}
use Rattle.std.specs.Borrow.{Bor}
use Rattle.names.specs.Names.{start_of, length_of, good_table, Tables, part_at, name_of, NamedBy}

abbrev pub BadPair : List ℕ → ℕ → Type 0
BadPair t r = (length_of t r ≢ 0) × ((32 < length_of t r) ⊎ (length t < start_of t r + length_of t r))

abbrev pub BadTable : List ℕ → Type 0
BadTable t = (length t < 256) ⊎ ((r : ℕ) × (r < 64) × BadPair t r)

pub record Naming : Type 0 where
  pub refused : (t : List ℕ) → T (not (good_table t)) ↔ BadTable t
  pub own : (works standard : List ℕ) (r : ℕ) → length_of works r ≢ 0 → name_of works standard r ≡ part_at works r
  pub other : (works standard : List ℕ) (r : ℕ) → length_of works r ≡ 0 → name_of works standard r ≡ part_at standard r
  pub nameless : (works standard : List ℕ) → Tables works standard → (r : ℕ) → r < 64 → (name_of works standard r ≡ []) ↔ ((length_of works r ≡ 0) × (length_of standard r ≡ 0))
  pub reach : (t : List ℕ) → ((k : ℕ) → get_or t k 0 ≤ 255) → (n : ℕ) → 65567 ≤ n
      → (good_table (take n t) ≡ good_table t) × (T (good_table t) → (r : ℕ) → r < 64 → (length_of (take n t) r ≡ length_of t r) × (part_at (take n t) r ≡ part_at t r))
  pub one-part : (works standard : Bor (List ℕ)) (r : ℕ) (p q : Bor (List ℕ)) → NamedBy works standard r p → NamedBy works standard r q
      → ¬ ((length_of works.now r ≡ 0) × (length_of standard.now r ≡ 0)) → (p.now ≡ q.now) × (p.ref_ptr ≡ q.ref_ptr)
  pub short : (works standard : List ℕ) → Tables works standard → (r : ℕ) → r < 64 → length (name_of works standard r) ≤ 32
