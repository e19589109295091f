-- `text::write_number` meets its contract: the digits but the last, then the last. Assumes nothing.
use native.Mathlib.Omega.{arith}
use Rattle.text.proofs.WriteLaws.{wrote-length, write-small, write_step, length-small, length-step}
use Rattle.text.proofs.+write_number.Goals as goal

pub bounds-out-at : goal.bounds-out-at
bounds-out-at t c = omega (arith, length-small c.args.v c.if-v-lt10.true)

pub returns-then-v-lt10 : goal.returns-then-v-lt10
returns-then-v-lt10 t c = let a = c.args in write-small a.out.now a.at a.v c.if-v-lt10.true

pub write_number-last-requires : goal.write_number-last-requires
write_number-last-requires t c = omega (arith, length-step c.args.v c.if-v-lt10.false)

pub bounds-out-last : goal.bounds-out-last
bounds-out-last t c =
    let v = c.args.v in
    let w = c.write_number-last.ensures in
    omega (arith, length-step v c.if-v-lt10.false, wrote-length w, w.next)

pub overflow_add-result-2 : goal.overflow_add-result-2
overflow_add-result-2 t c =
    let v = c.args.v in
    let w = c.write_number-last.ensures in
    record { fits = omega (arith, length-step v c.if-v-lt10.false, wrote-length w, w.next) }

pub returns : goal.returns
returns t c =
    let a = c.args in
    let w = c.write_number-last in
    write_step a.out.now w.new.out a.at a.v w.result c.if-v-lt10.false w.ensures
