-- `service::feed_loaded` meets its contract. Assumes nothing.
use Rattle.std.proofs.Common.{sym, ◌∙◌, arith, length-take-le}
use Rattle.area.specs.Layout.{area_bytes}
use Rattle.service.proofs.Feeding.{starts-good}
use Rattle.service.proofs.feed_loaded.Goals as goal

pub slice_bounds-feed_area_of-end-then-check : goal.slice_bounds-feed_area_of-end-then-check
slice_bounds-feed_area_of-end-then-check c = sym (length-take-le area_bytes c.args.area.now (omega (arith, c.requires.1)))

pub feed_area_of-requires : goal.feed_area_of-requires
feed_area_of-requires c = starts-good c.args.area.now c.args.loaded c.requires.0 (rw (← c.bytes.ensures) (sym c.check.ensures ∙ c.if-check.true))
