-- `wall::make_names` meets its contract. Assumes nothing.
use native.Mathlib.Omega.{arith}
use Rattle.listing.proofs.Theorems.{made_inside}
use Rattle.wall.proofs.make_names.Goals as goal

pub hand_out-requires : goal.hand_out-requires
hand_out-requires c = made_inside _ (omega arith) c.in-Ok-make_table.ensures
