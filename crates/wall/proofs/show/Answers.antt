-- `wall::show` meets its contract. Assumes nothing.
use native.Mathlib.Omega.{arith}
use Rattle.wall.proofs.Arguments.{permission-small}
use Rattle.wall.proofs.Showing.{permission-unread, set-unread, mapped-shown}
use Rattle.wall.proofs.show.Goals as goal

pub returns-in_default : goal.returns-in_default
returns-in_default c =
    let a = c.args in
    permission-unread a.area.now a.works.now a.permission.now a.set.now a.out.now c.in_default.ensures

pub returns-in_default-read_session : goal.returns-in_default-read_session
returns-in_default-read_session c =
    let a = c.args in
    set-unread a.area.now a.works.now a.permission.now a.set.now a.out.now _ _ c.in-Some.ensures c.in_default-read_session.ensures

pub overflow_cast-value : goal.overflow_cast-value
overflow_cast-value c = omega (arith, permission-small _ _ _ c.in-Some.ensures)

pub returns : goal.returns
returns c =
    let a = c.args in
    mapped-shown a.area.now a.works.now a.permission.now a.set.now a.out.now _ _ c.in-Some.ensures _ _ c.in-Some-read_session.ensures c.sheet.result c.map_err.result (rw c.requires at c.sheet.ensures) c.map_err.ensures.cases
