-- `print::print_row` meets its contract. Assumes nothing.
use borrow.Author.Rules.{rules}
use mathlib.Core.Path.{◌≡◌, refl, sym, ap, ◌∙◌}
use mathlib.Core.Bool.{true}
use mathlib.Core.List.{List}
use Prim.Native.Nat.{ℕ, ◌≤◌, ◌<◌}
use native.Mathlib.Omega.{arith}
use lib.ListN.{length}
use Rattle.meaning.specs.Rows.{most_opens}
use Rattle.rows.specs.Stored.{Tidy, row_of}
use Rattle.rows.proofs.Padded.{stored⇒tidy, stored⇒row}
use Rattle.area.specs.Layout.{good_bytes}
use Rattle.area.specs.State.{Entry, entry, state_of}
use Rattle.area.proofs.RowLaws.{GoodEntry, row-good}
use Rattle.area.proofs.Bytes.{good-state}
use Rattle.table.specs.Table.{rows_in, nth}
use Rattle.table.proofs.RowWords.{sound}
use Rattle.walker.specs.Walk.{given}
use Rattle.walker.specs.declared.Handed.{Handed}
use Rattle.written.specs.declared.Refusal.TheVariants.{BadArea, ShortBuffer, NoRow}
use Rattle.written.proofs.Laws.{prints-kept, prints-shown}
use Rattle.print.specs.Print.{least_room}
use Rattle.print.specs.Printed.{row_lines}
use Rattle.print.proofs.PrintLaws.{is-good, row-bad, row-none, row-short, row-writes, row_fits, some-handed, none-handed}
use Rattle.print.proofs.print_row.Goals.{Else-not-check, In-Some}
use Rattle.print.proofs.print_row.Goals as goal

-- a good area
good : (t : Else-not-check) → good_bytes t.args.area.now ≡ true
good t = sym t.check.ensures ∙ t.if-not-check.false

-- there is a row
module _ (l : List ℕ) (i : ℕ) where
  abbrev e : Entry
  e = nth i (rows_in l)

  -- what a walker hands out for it
  module _ (h : Handed) (g : good_bytes l ≡ true) (t : (i < length (rows_in l)) × (h ≡ given e)) where
    good-entry : GoodEntry (state_of l).roles 0 e
    good-entry = row-good (state_of l).roles 0 (rows_in l) (good-state l (is-good l g)).good-rows i t.0

    same : entry h.permission (row_of h.row) ≡ e
    same = ap (λ (x : Handed). entry x.permission (row_of x.row)) t.1 ∙ ap (entry e.permission) (stored⇒row _ e.row refl)

    tidy : Tidy most_opens h.row.opens
    tidy = stored⇒tidy most_opens _ e.row.opens (ap (λ (x : Handed). x.row.opens) t.1) good-entry.good-row.few

    module _ (p : ℕ) (q : p ≡ (state_of l).policy) where
      same_lines : row_lines p (entry h.permission (row_of h.row)) ≡ row_lines (state_of l).policy e
      same_lines = λ j. row_lines (q j) (same j)

      short : length (row_lines p (entry h.permission (row_of h.row))) ≤ least_room
      short = omega (arith, ap length same_lines, row_fits l g i t.0)

there : (t : In-Some) → good_bytes t.args.area.now ≡ true → (t.args.row < length (rows_in t.args.area.now)) × (t.in-Some.handed ≡ given (e t.args.area.now t.args.row))
there t g = some-handed t.args.area.now t.args.row (is-good t.args.area.now g) t.in-Some.ensures

pub returns-then-not-check : goal.returns-then-not-check
returns-then-not-check c = prints-kept BadArea (row-bad c.args.area.now c.args.row c.args.out.now (sym c.check.ensures ∙ c.if-not-check.true))

pub row_of-requires : goal.row_of-requires
row_of-requires c = λ _. sound c.args.area.now (is-good c.args.area.now (good (goal.at.row_of-requires c).Else-not-check))

pub returns-in_default : goal.returns-in_default
returns-in_default c =
    let g = good (goal.at.returns-in_default c).Else-not-check in
    prints-kept NoRow
    (row-none c.args.area.now c.args.row c.args.out.now g (none-handed c.args.area.now c.args.row (is-good c.args.area.now g) c.in_default.ensures))

pub returns-then-out-lt-LEAST_ROOM : goal.returns-then-out-lt-LEAST_ROOM
returns-then-out-lt-LEAST_ROOM c =
    let a = goal.at.returns-then-out-lt-LEAST_ROOM c in
    let g = good a.Else-not-check in
    prints-kept ShortBuffer (row-short c.args.area.now c.args.row c.args.out.now g (there a.In-Some g).0 c.if-out-lt-LEAST_ROOM.true)

pub policy_state-requires : goal.policy_state-requires
policy_state-requires c = sound c.args.area.now (is-good c.args.area.now (good (goal.at.policy_state-requires c).Else-not-check))

pub write_row-requires : goal.write_row-requires
write_row-requires c =
    let a = goal.at.write_row-requires c in
    let g = good a.Else-not-check in
    let t = there a.In-Some g in
    (tidy c.args.area.now c.args.row c.in-Some.handed g t, omega (arith, short c.args.area.now c.args.row c.in-Some.handed g t c.policy_state.result c.policy_state.ensures, ap length c.new-page.ensures.bytes, c.new-page.ensures.start))

pub overflow_cast-result : goal.overflow_cast-result
overflow_cast-result c =
    let a = goal.at.overflow_cast-result c in
    let g = good a.Else-not-check in
    let t = there a.In-Some g in
    omega (arith, short c.args.area.now c.args.row c.in-Some.handed g t c.policy_state.result c.policy_state.ensures, c.write_row.ensures.wrote.next, c.new-page.ensures.start)

pub returns : goal.returns
returns c =
    let a = goal.at.returns c in
    let g = good a.Else-not-check in
    let t = there a.In-Some g in
    prints-shown (row_lines (state_of c.args.area.now).policy (e c.args.area.now c.args.row)) (row-writes c.args.area.now c.args.row c.args.out.now g t.0 (omega arith))
    (rw (← same_lines c.args.area.now c.args.row c.in-Some.handed g t c.policy_state.result c.policy_state.ensures) (search rules))
