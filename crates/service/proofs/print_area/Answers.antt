-- `service::print_area` meets its contract. Before each turn the O line and the rows before `row` were handed over. Assumes nothing.
use Rattle.std.proofs.Common.{◌+◌, ◌≤◌, length, refl, arith}
use Rattle.std.proofs.lemmas.Result.{err_from_is_err_and}
use Rattle.print.specs.Print.{least_room}
use Rattle.service.proofs.Printing.{opened, row-printed, rows-ended, starts, goes_on, handed-bytes, goes-cut, goes-whole, none-printed, refused-number}
use Rattle.service.proofs.print_area.Goals as goal

-- ---- the O line

pub returns-in_default : goal.returns-in_default
returns-in_default g c = none-printed c.args.area.now c.args.out.now c.requires c.in_default.ensures (refused-number c.in_default.field-0)

pub write_first-requires : goal.write_first-requires
write_first-requires g c =
    let o = opened c.args.area.now c.args.out.now c.requires c.in-Ok.ensures refl in
    omega (arith, o.2, c.requires, c.print_open.auto.out)

pub handed_on-requires : goal.handed_on-requires
handed_on-requires g c =
    let o = opened c.args.area.now c.args.out.now c.requires c.in-Ok.ensures refl in
    (omega (arith, o.2, c.write_first.ensures), omega arith)

pub returns-in_err-bytes : goal.returns-in_err-bytes
returns-in_err-bytes g c =
    let p = err_from_is_err_and c.from_residual.result c.from_residual.ensures.1 in
    rw (p.1, p.2)
    (goes-cut _ (starts c.args.area.now c.args.out.now c.requires c.in-Ok.ensures refl (0 + c.write_first.result.bytes) (omega (arith, c.write_first.ensures)))
    c.write_first.result.taken c.in_err-bytes.ensures)

pub loop-row-init : goal.loop-row-init
loop-row-init g c =
    starts c.args.area.now c.args.out.now c.requires c.in-Ok.ensures refl c.in_ok-bytes.bytes
    (omega (arith, handed-bytes c.write_first.result.taken (0 + c.write_first.result.bytes) c.in_ok-bytes.ensures, c.write_first.ensures))

-- ---- a row

pub returns-in_default-print_row : goal.returns-in_default-print_row
returns-in_default-print_row g c =
    let at = c.loop-row in
    goes-whole at.bytes at.invariant
    (rows-ended c.args.area.now at.out at.row at.invariant.good (omega (arith, c.requires, c.print_open.auto.out, at.auto.out)) c.in_default-print_row.ensures
    (refused-number c.in_default-print_row.field-0))

pub write_first-requires-in-loop-row : goal.write_first-requires-in-loop-row
write_first-requires-in-loop-row g c =
    let at = c.loop-row in
    let room : least_room ≤ length at.out = omega (arith, c.requires, c.print_open.auto.out, at.auto.out) in
    let p = row-printed c.args.area.now at.out at.row at.invariant.good room c.in-Ok-print_row.ensures refl in
    omega (arith, p.2, room, c.print_row.auto.out)

pub handed_on-requires-in-loop-row : goal.handed_on-requires-in-loop-row
handed_on-requires-in-loop-row g c =
    let at = c.loop-row in
    let room : least_room ≤ length at.out = omega (arith, c.requires, c.print_open.auto.out, at.auto.out) in
    let p = row-printed c.args.area.now at.out at.row at.invariant.good room c.in-Ok-print_row.ensures refl in
    (omega (arith, p.2, c.write_first-in-loop-row.ensures), omega (arith, p.0, at.invariant.most, at.invariant.few))

pub returns-in_err-bytes-2 : goal.returns-in_err-bytes-2
returns-in_err-bytes-2 g c =
    let at = c.loop-row in
    let p = err_from_is_err_and c.from_residual-in_err-bytes-2.result c.from_residual-in_err-bytes-2.ensures.1 in
    rw (p.1, p.2)
    (goes-cut _
    (goes_on c.args.area.now at.out at.row at.invariant (omega (arith, c.requires, c.print_open.auto.out, at.auto.out)) c.in-Ok-print_row.ensures refl
    (at.bytes + c.write_first-in-loop-row.result.bytes) (omega (arith, c.write_first-in-loop-row.ensures)))
    c.write_first-in-loop-row.result.taken c.in_err-bytes-2.ensures)

pub loop-row-preserved : goal.loop-row-preserved
loop-row-preserved g c =
    let at = c.loop-row in
    goes_on c.args.area.now at.out at.row at.invariant (omega (arith, c.requires, c.print_open.auto.out, at.auto.out)) c.in-Ok-print_row.ensures refl
    c.in_ok-bytes-2.bytes
    (omega (arith, handed-bytes c.write_first-in-loop-row.result.taken (at.bytes + c.write_first-in-loop-row.result.bytes) c.in_ok-bytes-2.ensures, c.write_first-in-loop-row.ensures))

pub returns : goal.returns
returns g c = goes-whole c.loop-row.bytes c.loop-row.invariant (omega (arith, c.loop-row.invariant.most, c.loop-row-test.false))
