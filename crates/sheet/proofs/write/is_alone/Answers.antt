-- `sheet::write::is_alone` meets its contract. Assumes nothing.
use native.Mathlib.Omega.{arith}
use Rattle.sheet.proofs.Parts.{alone-is}
use Rattle.sheet.proofs.write.is_alone.Goals as goal

pub returns : goal.returns
returns c = alone-is c.args.s.bits (omega arith)
