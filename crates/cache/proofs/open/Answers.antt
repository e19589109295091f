-- `cache::open` meets its contract. Assumes nothing.
use mathlib.Core.Path.{◌≡◌}
use native.Mathlib.Omega.{arith}
use lib.ListN.{length}
use Rattle.cache.proofs.Places.{bytes-are}
use Rattle.area.specs.Layout.{area_bytes}
use Rattle.area.specs.State.{opened}
use Rattle.cache.proofs.Calling.{open-1, open-2, open-go}
use Rattle.cache.proofs.open.Goals as goal

pub returns-then-a-ne-AREA_BYTES : goal.returns-then-a-ne-AREA_BYTES
returns-then-a-ne-AREA_BYTES c = open-1 c.args.a.now c.args.n c.args.state c.if-a-ne-AREA_BYTES.true

pub returns-then-n : goal.returns-then-n
returns-then-n c = open-2 c.args.a.now c.args.n c.args.state c.if-a-ne-AREA_BYTES.false c.if-n.true

pub returns : goal.returns
returns c =
    let end = c.clear_all.new.a in
    let len : length end ≡ area_bytes = omega (arith, c.if-a-ne-AREA_BYTES.false) in
    open-go c.args.a.now c.args.n c.args.state end c.if-a-ne-AREA_BYTES.false c.if-n.false
    (bytes-are end (opened c.args.n c.args.state) (λ p. (c.slice_known-2-1.given p).fits) len c.clear_all.ensures)
