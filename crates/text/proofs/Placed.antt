-- A text written byte by byte, and a set's text from one of its roles on: laws that pages name, which no proof needs any more.
-- Assumes nothing.
use mathlib.Core.Path.{◌≡◌, ap}
use mathlib.Core.Bool.{Bool}
use mathlib.Core.List.{List, [], ◌∷◌}
use mathlib.Core.Logic.{◌↔◌}
use Prim.Native.Nat.{ℕ, ◌+◌, ◌^◌, ◌≤◌, ◌<◌}
use native.Mathlib.Nat.{add-zero, add_assoc}
use native.Mathlib.Omega.{arith}
use lib.ListN.{length, drop, get_or, set, drop_of_length-le}
use Rattle.roles.specs.Sets.{In, most_roles, outside}
use Rattle.roles.proofs.Rests.{rest_roles, roles-next}
use Rattle.text.specs.Set.{roles_text}
use Rattle.text.specs.Write.{Wrote}
use Rattle.text.proofs.Walks.{next-cons}
use Rattle.text.proofs.WriteLaws.{wrote_one, Left, left-start, left_end, left-next, left-room}

module _ (d : List ℕ) (at : ℕ) (t : List ℕ) where
  pub bytes-start : Left d at t d (at + 0) (drop 0 t)
  bytes-start = rw (add-zero at) (left-start d at t)

  module _ (e : List ℕ) (i : ℕ) (l : Left d at t e (at + i) (drop i t)) where
    pub bytes-room : i < length t → at + length t ≤ length d → at + i < length e
    bytes-room h r = let k = left-room (get_or t i 0 ∷ []) (drop (i + 1) t) l (next-cons t i h) r in omega arith

    pub bytes_next : i < length t → Left d at t (set e (at + i) (get_or t i 0)) (at + (i + 1)) (drop (i + 1) t)
    bytes_next h = rw (← add_assoc at i 1) (left-next l (next-cons t i h) (wrote_one e (at + i) (get_or t i 0)))

    pub bytes-end : length t ≤ i → Wrote d at t e (at + i)
    bytes-end h = left_end (rw (drop_of_length-le t {i = i} h) at l)

-- the text of the roles of s from r on
abbrev pub rest_text : Bool → ℕ → ℕ → List ℕ
rest_text later r s = roles_text later (rest_roles r s)

-- from one role of s to the next: t has the roles below r, and no other
pub rest-next : (r s t : ℕ) (fits : s < 2 ^ most_roles) (low : r ≤ most_roles) (below : (q : ℕ) → q < most_roles → In t q ↔ (q < r)) (later : Bool) → rest_text later r s ≡ rest_text later (outside s t) s
rest-next r s t fits low below later = ap (roles_text later) (roles-next r s t fits low below)
