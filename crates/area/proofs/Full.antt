-- Rows of consecutive permissions with the same row: good, and as many as there is room for. Assumes nothing.
use mathlib.Core.Path.{◌≡◌, refl, ap}
use mathlib.Core.List.{List, [], ◌∷◌}
use Prim.Native.Nat.{ℕ, zero, suc, ◌+◌, ◌≤◌, ◌<◌}
use native.Mathlib.Omega.{arith}
use lib.ListN.{length, get_or}
use Rattle.meaning.specs.Rows.{Row}
use Rattle.meaning.specs.Events.{last_permission}
use Rattle.area.specs.State.{Entry, GoodRow, GoodRows, entry}
use Rattle.area.proofs.RowLaws.{none}

-- k rows, of the permissions from p on
unfoldable pub repeated : Row → ℕ → ℕ → List Entry
repeated w p zero = []
repeated w p (suc k) = entry p w ∷ repeated w (suc p) k

pub length-repeated : (w : Row) (p k : ℕ) → length (repeated w p k) ≡ k
unfolding repeated
length-repeated w p zero = refl
length-repeated w p (suc k) = ap suc (length-repeated w (suc p) k)

pub repeated-row : (w : Row) (p k i : ℕ) → i < k → (get_or (repeated w p k) i none).row ≡ w
unfolding repeated
repeated-row w p zero i h = absurd (let z : ⊥ = omega arith in z)
repeated-row w p (suc k) zero h = refl
repeated-row w p (suc k) (suc i) h = repeated-row w (suc p) k i (omega arith)

pub repeated-good : (n : ℕ) (w : Row) → GoodRow n w → (last k : ℕ) → last + k ≤ last_permission → GoodRows n last (repeated w (suc last) k)
unfolding repeated
repeated-good n w g last zero h = tt
repeated-good n w g last (suc k) h = (omega arith, omega arith, g, repeated-good n w g (suc last) k (omega arith))
