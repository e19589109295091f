-- `names::table_good` meets its contract: the pairs passed are good. Assumes nothing.
use mathlib.Core.Path.{◌≡◌, sym, ◌∙◌}
use mathlib.Core.Bool.{true, false}
use native.Mathlib.Numerals.{add-one}
use native.Mathlib.Omega.{arith}
use Rattle.roles.specs.Sets.{most_roles}
use Rattle.names.proofs.TableLaws.{pairs-none, pairs-more, pairs-broken, table-short, table_is}
use Rattle.names.proofs.table_good.Goals as goal

pub returns-then-t-lt-CONTENTS_BYTES : goal.returns-then-t-lt-CONTENTS_BYTES
returns-then-t-lt-CONTENTS_BYTES c = table-short c.args.t.now c.if-t-lt-CONTENTS_BYTES.true

pub loop-r-init : goal.loop-r-init
loop-r-init c = (c.if-t-lt-CONTENTS_BYTES.false, pairs-none c.args.t.now)

pub returns-then-not-pair_good : goal.returns-then-not-pair_good
returns-then-not-pair_good c =
    let l = c.loop-r in
    let t = c.args.t.now in
    table_is t false l.invariant.0 (pairs-broken t l.r most_roles (omega arith) (sym c.pair_good.ensures ∙ c.if-not-pair_good.true))

pub loop-r-preserved : goal.loop-r-preserved
loop-r-preserved c =
    let l = c.loop-r in
    (l.invariant.0, rw add-one (pairs-more c.args.t.now l.r l.invariant.1 (sym c.pair_good.ensures ∙ c.if-not-pair_good.false)))

pub returns : goal.returns
returns c =
    let l = c.loop-r in
    let e : l.r ≡ most_roles = omega arith in
    table_is c.args.t.now true l.invariant.0 (rw e at l.invariant.1)
