-- `print::print_open` meets its contract. Assumes nothing.
use borrow.Author.Rules.{rules}
use mathlib.Core.Path.{◌≡◌, sym, ap, ◌∙◌}
use mathlib.Core.Bool.{true}
use mathlib.Core.List.{List}
use Prim.Native.Nat.{ℕ, ◌≤◌}
use native.Mathlib.Omega.{arith}
use lib.ListN.{length}
use Rattle.area.specs.Layout.{good_bytes}
use Rattle.area.specs.State.{state_of}
use Rattle.table.proofs.RowWords.{sound}
use Rattle.requests.specs.declared.Request.TheVariants.{Open}
use Rattle.written.specs.declared.Refusal.TheVariants.{BadArea, ShortBuffer}
use Rattle.written.proofs.Laws.{prints-kept, prints-shown}
use Rattle.print.specs.Print.{least_room}
use Rattle.print.specs.Printed.{line_of, open_line}
use Rattle.print.proofs.PrintLaws.{is-good, open-bad, open-short, open-writes, open-fits}
use Rattle.print.proofs.print_open.Goals.{After-policy_state, Else-not-check}
use Rattle.print.proofs.print_open.Goals as goal

-- a good area
good : (t : Else-not-check) → good_bytes t.args.area.now ≡ true
good t = sym t.check.ensures ∙ t.if-not-check.false

-- at the call of `write_open`
module _ (c : After-policy_state) (g : good_bytes c.args.area.now ≡ true) where
  abbrev line : List ℕ
  line = line_of (Open c.role_count.result c.policy_state.result)

  same : line ≡ open_line (state_of c.args.area.now)
  same = λ i. line_of (Open (c.role_count.ensures i) (c.policy_state.ensures i))

  short : length line ≤ least_room
  short = omega (arith, ap length same, open-fits c.args.area.now g)

pub returns-then-not-check : goal.returns-then-not-check
returns-then-not-check c = prints-kept BadArea (open-bad c.args.area.now c.args.out.now (sym c.check.ensures ∙ c.if-not-check.true))

pub returns-then-out-lt-LEAST_ROOM : goal.returns-then-out-lt-LEAST_ROOM
returns-then-out-lt-LEAST_ROOM c =
    prints-kept ShortBuffer (open-short c.args.area.now c.args.out.now (good (goal.at.returns-then-out-lt-LEAST_ROOM c).Else-not-check) c.if-out-lt-LEAST_ROOM.true)

pub role_count-requires : goal.role_count-requires
role_count-requires c = sound c.args.area.now (is-good c.args.area.now (good (goal.at.role_count-requires c).Else-not-check))

pub policy_state-requires : goal.policy_state-requires
policy_state-requires c = sound c.args.area.now (is-good c.args.area.now (good (goal.at.policy_state-requires c).Else-not-check))

pub write_open-requires : goal.write_open-requires
write_open-requires c =
    let a = goal.at.write_open-requires c in
    omega (arith, short a.After-policy_state (good a.Else-not-check), ap length c.new-page.ensures.bytes, c.new-page.ensures.start)

pub overflow_cast-result : goal.overflow_cast-result
overflow_cast-result c =
    let a = goal.at.overflow_cast-result c in
    omega (arith, short a.After-policy_state (good a.Else-not-check), c.write_open.ensures.wrote.next, c.new-page.ensures.start)

pub returns : goal.returns
returns c =
    let a = goal.at.returns c in
    let g = good a.Else-not-check in
    prints-shown (open_line (state_of c.args.area.now)) (open-writes c.args.area.now c.args.out.now g (omega arith))
    (rw (← same a.After-policy_state g) (search rules))
