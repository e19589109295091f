-- `listing::is_free` meets its contract. Assumes nothing.
use Rattle.listing.proofs.Writing.{free-is}
use Rattle.listing.proofs.is_free.Goals as goal

pub returns : goal.returns
returns c = let a = c.args in free-is a.table.now a.r
