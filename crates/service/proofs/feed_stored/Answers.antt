-- `service::feed_stored` meets its contract. Assumes nothing.
use Rattle.service.proofs.Feeding.{starts-zeros}
use Rattle.service.proofs.feed_stored.Goals as goal

pub feed_area_of-requires : goal.feed_area_of-requires
feed_area_of-requires c = starts-zeros (rw c.in-Err-Missing.field-0-is at c.in-Err-Missing.ensures)
