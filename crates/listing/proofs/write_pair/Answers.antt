-- `listing::write_pair` meets its contract. Assumes nothing.
use mathlib.Core.Path.{◌∙◌}
use Prim.Native.Nat.{◌*◌}
use native.Mathlib.Omega.{arith}
use Rattle.listing.proofs.Writing.{pair-put}
use Rattle.listing.proofs.write_pair.Goals as goal

pub returns : goal.returns
returns c =
    let a = c.args in
    let h = c.requires in
    pair-put a.out.now (a.r * 4) a.start a.n (omega arith) h.2 h.3
    (c.copy_from_slice.ensures.after ∙ c.to_le_bytes.ensures)
    (c.copy_from_slice-2.ensures.after ∙ c.to_le_bytes-2.ensures)
