-- A text written into lent bytes; those before and behind it stay.
--     Wrote d at t e p    e is d with the text t from the place `at` on, and p is the place behind it
use Rattle.std.specs.Prelude.{◌≡◌, List, ℕ, ◌+◌, length}
use Rattle.std.proofs.lemmas.List.Edits.{sets}

pub record Wrote (d : List ℕ) (at : ℕ) (t : List ℕ) (e : List ℕ) (p : ℕ) : Type 0 where
  pub bytes : e ≡ sets d at t
  pub next : p ≡ at + length t
