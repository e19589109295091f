-- `listing::make_table` meets its contract: the lines not yet passed finish the table. Assumes nothing.
use mathlib.Core.Path.{◌≡◌, sym, ap, ◌∙◌}
use mathlib.Core.Bool.{true}
use mathlib.Core.List.{List}
use Prim.Native.Nat.{ℕ, ◌-◌, ◌≤◌, ◌<◌}
use native.Mathlib.Omega.{arith}
use lib.Dec.{eqb}
use lib.ListN.{length, take, drop, length-drop}
use lib.Seq.{take_all}
use Rattle.roles.specs.Sets.{most_roles}
use Rattle.text.proofs.Walks.{field-bad}
use Rattle.names.specs.Names.{length_of}
use Rattle.listing.specs.Listing.{read_line}
use Rattle.listing.proofs.LineLaws.{LineThere, line_read_lem}
use Rattle.listing.proofs.Walk.{left-start, left-length, left-long, left-fits, left-count, left_end, line-inside, line-unread, line-role, line-twice, line-room, line_taken}
use Rattle.listing.proofs.make_table.Goals.{After-line_end-end, Else-not-is_free, In-Some}
use Rattle.listing.proofs.make_table.Goals as goal

-- the next line
abbrev line_of : List ℕ → ℕ → ℕ → List ℕ
line_of list at end = take (end - at) (drop at list)

inside : (c : After-line_end-end) → c.line_end-end.result ≤ length c.args.list.now
inside c = line-inside c.loop-at.invariant c.loop-at-test.true c.line_end-end.result c.line_end-end.ensures

-- it reads
module _ (c : In-Some) where
  there : LineThere (line_of c.args.list.now c.loop-at.at c.line_end-end.result) c.in-Some.role c.in-Some.name
  there = line_read_lem (line_of c.args.list.now c.loop-at.at c.line_end-end.result) c.in-Some.role c.in-Some.name c.in-Some.ensures

  abbrev name : List ℕ
  name = drop c.in-Some.name (line_of c.args.list.now c.loop-at.at c.line_end-end.result)

  role-small : c.in-Some.role < most_roles
  role-small = line-role c.loop-at.invariant c.loop-at-test.true c.line_end-end.result c.line_end-end.ensures c.in-Some.role name there.reads

  -- the part that is lent is the name
  name-whole : take (length (line_of c.args.list.now c.loop-at.at c.line_end-end.result) - c.in-Some.name) name ≡ name
  name-whole =
      let line = line_of c.args.list.now c.loop-at.at c.line_end-end.result in
      take_all (length line - c.in-Some.name) name (omega (arith, length-drop c.in-Some.name line))

-- its role has no name yet
free : (c : Else-not-is_free) → eqb (length_of (take c.loop-at.bytes c.loop-at.out) c.in-Some.role) 0 ≡ true
free c = sym c.is_free.ensures ∙ c.if-not-is_free.false

pub loop-at-init : goal.loop-at-init
loop-at-init c = left-start c.args.list.now c.requires c.write_none-bytes.ensures

pub slice_bounds-entry-end : goal.slice_bounds-entry-end
slice_bounds-entry-end c = inside (goal.at.slice_bounds-entry-end c).After-line_end-end

pub returns-in_default : goal.returns-in_default
returns-in_default c =
    let line = line_of c.args.list.now c.loop-at.at c.line_end-end.result in
    line-unread c.loop-at.invariant c.loop-at-test.true c.line_end-end.result c.line_end-end.ensures c.write_none-bytes.ensures (field-bad (λ v. v) line (read_line line) c.in_default.ensures)

pub slice_bounds-is_free-end : goal.slice_bounds-is_free-end
slice_bounds-is_free-end c = left-fits c.loop-at.invariant

pub slice_bounds-is_free-end-in-loop-at : goal.slice_bounds-is_free-end-in-loop-at
slice_bounds-is_free-end-in-loop-at c = left-count c.loop-at.invariant

pub is_free-requires : goal.is_free-requires
is_free-requires c =
    let n = left-count c.loop-at.invariant in
    let h = left-long c.loop-at.invariant in
    (omega arith, role-small (goal.at.is_free-requires c).In-Some)

pub returns-then-not-is_free : goal.returns-then-not-is_free
returns-then-not-is_free c =
    let f = (goal.at.returns-then-not-is_free c).In-Some in
    line-twice c.loop-at.invariant c.loop-at-test.true c.line_end-end.result c.line_end-end.ensures c.in-Some.role (name f) (there f).reads c.write_none-bytes.ensures (sym c.is_free.ensures ∙ c.if-not-is_free.true)

pub write_name-bytes-requires : goal.write_name-bytes-requires
write_name-bytes-requires c =
    let a = goal.at.write_name-bytes-requires c in
    let l = c.loop-at.invariant in
    let f = a.In-Some in
    let n = ap length (name-whole f) in
    let m = line-room l c.loop-at-test.true c.line_end-end.result c.line_end-end.ensures c.in-Some.role (name f) (there f).reads (free a.Else-not-is_free) in
    let k = left-length l in
    let h = l.room in
    (left-long l, role-small f, omega arith, omega arith)

pub loop-at-preserved : goal.loop-at-preserved
loop-at-preserved c =
    let a = goal.at.loop-at-preserved c in
    let f = a.In-Some in
    line_taken c.loop-at.invariant c.loop-at-test.true c.line_end-end.result c.line_end-end.ensures c.in-Some.role (name f) (there f).reads (free a.Else-not-is_free) (rw (name-whole f) at c.write_name-bytes.ensures)

-- its number fits, and so does the place behind it, which comes later
pub overflow_add-at : goal.overflow_add-at
overflow_add-at c = let i = inside (goal.at.overflow_add-at c).After-line_end-end in omega arith

pub returns : goal.returns
returns c = left_end c.loop-at.invariant c.write_none-bytes.ensures c.loop-at-test.false
