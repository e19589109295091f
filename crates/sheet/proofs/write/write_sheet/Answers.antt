-- `sheet::write::write_sheet` meets its contract: its parts stand one behind the other. Assumes nothing.
use mathlib.Core.List.{List}
use Prim.Native.Nat.{ℕ}
use native.Mathlib.Omega.{arith}
use Rattle.meaning.specs.Rows.{Row}
use Rattle.rows.specs.Stored.{row_of}
use Rattle.calls.specs.Answers.{verdict_number}
use Rattle.text.proofs.PageLaws.{adds_then}
use Rattle.sheet.specs.Text.{shown_by}
use Rattle.sheet.proofs.Parts.{sheet-parts, length-parts}
use Rattle.sheet.proofs.write.write_sheet.Goals.{Start}
use Rattle.sheet.proofs.write.write_sheet.Goals as goal

module _ (s : Start) where
  abbrev f : ℕ → List ℕ
  f = shown_by s.args.names

  abbrev w : Row
  w = row_of s.args.w

  abbrev v : ℕ
  v = verdict_number s.args.verdict

-- ---- room for each

pub push_bytes-requires : goal.push_bytes-requires
push_bytes-requires c = let s = (goal.at.push_bytes-requires c).Start in omega (arith, length-parts (f s) (w s) (v s))

pub write_set-requires : goal.write_set-requires
write_set-requires c = let s = (goal.at.write_set-requires c).Start in omega (arith, length-parts (f s) (w s) (v s))

pub push_bytes-requires-2 : goal.push_bytes-requires-2
push_bytes-requires-2 c = let s = (goal.at.push_bytes-requires-2 c).Start in omega (arith, length-parts (f s) (w s) (v s))

pub write_proved-requires : goal.write_proved-requires
write_proved-requires c = let s = (goal.at.write_proved-requires c).Start in rw c.held-sets.ensures (omega (arith, length-parts (f s) (w s) (v s)))

pub push_bytes-requires-3 : goal.push_bytes-requires-3
push_bytes-requires-3 c = let s = (goal.at.push_bytes-requires-3 c).Start in let p = rw c.held-sets.ensures at c.write_proved.ensures in omega (arith, p, length-parts (f s) (w s) (v s))

pub write_open-requires : goal.write_open-requires
write_open-requires c = let s = (goal.at.write_open-requires c).Start in let p = rw c.held-sets.ensures at c.write_proved.ensures in rw c.held-sets.ensures (omega (arith, p, length-parts (f s) (w s) (v s)))

pub push_bytes-requires-4 : goal.push_bytes-requires-4
push_bytes-requires-4 c =
    let s = (goal.at.push_bytes-requires-4 c).Start in
    let p = rw c.held-sets.ensures at c.write_proved.ensures in
    let o = rw c.held-sets.ensures at c.write_open.ensures in
    omega (arith, p, o, length-parts (f s) (w s) (v s))

pub write_answer-requires : goal.write_answer-requires
write_answer-requires c =
    let s = (goal.at.write_answer-requires c).Start in
    let p = rw c.held-sets.ensures at c.write_proved.ensures in
    let o = rw c.held-sets.ensures at c.write_open.ensures in
    omega (arith, p, o, length-parts (f s) (w s) (v s))

pub returns : goal.returns
returns c =
    let s = (goal.at.returns c).Start in
    let p = rw c.held-sets.ensures at c.write_proved.ensures in
    let o = rw c.held-sets.ensures at c.write_open.ensures in
    rw (sheet-parts (f s) (w s) (v s))
    (adds_then c.push_bytes.ensures (adds_then c.write_set.ensures (adds_then c.push_bytes-2.ensures (adds_then p (adds_then c.push_bytes-3.ensures (adds_then o (adds_then c.push_bytes-4.ensures c.write_answer.ensures)))))))
