-- A text added to a page: the bytes before and behind it stay.
--     Room p t     the page p has room for t
--     Adds p t q   q is p with t added, in the same lent buffer
use Rattle.std.specs.Prelude.{◌≡◌, List, ℕ, ◌+◌, ◌≤◌, length}
use Rattle.text.specs.Write.{Wrote}
use Rattle.text.specs.declared.Page.{Page}

abbrev pub Room : Page → List ℕ → Type 0
Room p t = p.at + length t ≤ length p.out.now

pub record Adds (p : Page) (t : List ℕ) (q : Page) : Type 0 where
  pub same_buffer : q.out.ghost_name ≡ p.out.ghost_name
  -- follows from `wrote`, and is what callers' rooms are found by
  pub same_length : length q.out.now ≡ length p.out.now
  pub wrote : Wrote p.out.now p.at t q.out.now q.at
