-- `sheet::sheet` meets its contract. Assumes nothing.
use borrow.Author.Rules.{rules}
use mathlib.Core.Path.{◌≡◌, sym, ap, ◌∙◌, subst, subst⁻¹}
use mathlib.Core.Bool.{true, false, cond, ◌&&◌, false≢true}
use mathlib.Core.List.{List}
use mathlib.Core.Logic.{◌≢◌, ⊎_elim}
use Prim.Native.Nat.{ℕ, ◌≤◌}
use native.Mathlib.Omega.{arith}
use lib.Dec.{T, eqb}
use lib.ListN.{length}
use Rattle.std.specs.Prelude.{Result, Ok, Err}
use Rattle.roles.proofs.Tests.{T_and, unlike}
use Rattle.meaning.specs.Rows as meaning
use Rattle.meaning.specs.Events as meaning-events
use Rattle.rows.specs.Stored.{row_of}
use Rattle.rows.proofs.Padded.{stored⇒tidy, stored⇒row}
use Rattle.rows.specs.declared.Row.{Row}
use Rattle.written.specs.Print.{kept}
use Rattle.written.specs.declared.Refusal.TheVariants as unwritten
use Rattle.written.proofs.Laws.{prints-kept, prints-shown}
use Rattle.calls.specs.Calls.{Look, look_of}
use Rattle.calls.specs.declared.Refusal.{Refusal}
use Rattle.calls.specs.declared.Refusal.TheVariants.{BadArea, NoPermission, UnknownRole}
use Rattle.calls.specs.Answers.{refusal_number, verdict_number}
use Rattle.calls.proofs.CallLaws.{look-row, look-refusals}
use Rattle.calls.proofs.Numbers.{refusal-one, refusal-no-verdict, verdict-no-refusal}
use Rattle.cache.specs.Sees.{Sees}
use Rattle.cache.specs.declared.Looked.{Looked}
use Rattle.names.specs.Names.{good_table, Tables}
use Rattle.names.proofs.MadeLaws.{made-good, unmade-bad}
use Rattle.sheet.specs.Sheet.{longest_sheet, sheet_of}
use Rattle.sheet.specs.Text.{name_text, shown_by, sheet_lines, sheet_text}
use Rattle.sheet.proofs.Lengths.{names-short, sheet-length}
use Rattle.sheet.proofs.SheetLaws.{sheet-bad-area, sheet-bad-table, sheet-no-permission, sheet-unknown, sheet-short, sheet-writes, sheet-lines}
use Rattle.sheet.proofs.sheet.Goals.{After-is_of_bad_area, In-Some, Else-out-lt-SHEET_BYTES}
use Rattle.sheet.proofs.sheet.Goals as goal

-- ---- what is judged after the look

module _ (l : List ℕ) (p s : ℕ) where
  abbrev said : ℕ
  said = (look_of l p s).decided.answer

  refused-says : (r : Refusal) → Sees (look_of l p s) (Err r) → said ≡ refusal_number r
  refused-says r g = ap (λ (k : Look). k.decided.answer) g

  seen-says : (x : Looked) → Sees (look_of l p s) (Ok x) → said ≡ verdict_number x.verdict
  seen-says x g = sym (ap (λ (d : meaning.Decided). d.answer) g.0)

  not_bad : (r : Result Looked Refusal) → Sees (look_of l p s) r → (r ≡ Err BadArea → ⊥) → said ≢ 1
  not_bad (Ok x) g n e = verdict-no-refusal x.verdict BadArea (sym (seen-says x g) ∙ e)
  not_bad (Err r) g n e = n (ap (λ (y : Refusal). Err y) (refusal-one r BadArea (sym (refused-says r g) ∙ e)))

  -- what is refused after the tables
  refused-late : (works standard d : List ℕ) (n : ℕ) (r : Refusal) → Sees (look_of l p s) (Err r) → n ≡ cond (eqb (refusal_number r) 3) 3 4 → said ≢ 1 → (good_table works && good_table standard) ≡ true
      → sheet_of l works standard p s d ≡ kept n d
  refused-late works standard d n r g e u t =
      let is : (k : ℕ) → said ≡ k → n ≡ cond (eqb k 3) 3 4 = λ k a. e ∙ ap (λ (j : ℕ). cond {A = ℕ} (eqb j 3) 3 4) (sym (refused-says r g) ∙ a) in
      ⊎_elim (λ a. absurd (u a)) (
      ⊎_elim (λ a. sheet-no-permission l works standard p s d u t a ∙ ap (λ (k : ℕ). kept k d) (sym (is 3 a))) (
      ⊎_elim (λ a. sheet-unknown l works standard p s d u t (λ b. unlike tt (sym b ∙ a)) a ∙ ap (λ (k : ℕ). kept k d) (sym (is 4 a)))
      (λ v. absurd (refusal-no-verdict r (subst (λ (k : ℕ). meaning-events.Verdict k) (refused-says r g) v)))
      )
      ) (look-refusals l p s)

both-good : (c : In-Some) → (good_table c.args.works.now && good_table c.args.standard.now) ≡ true
both-good c = made-good c.args.works c.args.standard c.in-Some.names c.in-Some.ensures

-- the names that were made are those of the two tables
named-so : (c : In-Some) → shown_by c.in-Some.names ≡ name_text c.args.works.now c.args.standard.now
named-so c = λ i. name_text (c.in-Some.ensures.0 i).now (c.in-Some.ensures.1 i).now

not-1 : (c : After-is_of_bad_area) → c.is_of_bad_area.result ≡ false → said c.args.area.now c.args.p c.args.s ≢ 1
not-1 c h =
    not_bad c.args.area.now c.args.p c.args.s c.look-looked.result c.look-looked.ensures
    (λ e. let t : c.is_of_bad_area.result ≡ true = c.is_of_bad_area.ensures.1 e in false≢true (sym h ∙ t))

-- ---- the sheet

-- the look is not refused, and both tables are good
module _ (c : Else-out-lt-SHEET_BYTES) (t : (good_table c.args.works.now && good_table c.args.standard.now) ≡ true) (n : shown_by c.in-Some.names ≡ name_text c.args.works.now c.args.standard.now) where
  abbrev f : ℕ → List ℕ
  f = name_text c.args.works.now c.args.standard.now

  abbrev row : meaning.Row
  row = (look_of c.args.area.now c.args.p c.args.s).row

  abbrev looked : Looked
  looked = c.in-Ok.looked

  gave : Sees (look_of c.args.area.now c.args.p c.args.s) (Ok looked)
  gave = rw c.in-Ok.is at (c.look-looked.ensures)

  says : said c.args.area.now c.args.p c.args.s ≡ verdict_number looked.verdict
  says = seen-says c.args.area.now c.args.p c.args.s looked gave

  -- so its number is none of those of a refusal
  is-not : (r : Refusal) → said c.args.area.now c.args.p c.args.s ≢ refusal_number r
  is-not r e = verdict-no-refusal looked.verdict r (sym says ∙ e)

  are-tables : Tables c.args.works.now c.args.standard.now
  are-tables = (T_and (good_table c.args.works.now) (good_table c.args.standard.now)).0 (subst⁻¹ T t tt)

  -- what the code has is the row and the answer of the look
  same : sheet_lines (shown_by c.in-Some.names) (row_of looked.row) (verdict_number looked.verdict) ≡ sheet_text f row c.args.s
  same =
      (λ i. sheet_lines (n i) (stored⇒row looked.row row gave.1 i) (sym says i))
      ∙ sheet-lines c.args.area.now c.args.works.now c.args.standard.now c.args.p c.args.s c.args.out.now (is-not BadArea) t (is-not NoPermission) (is-not UnknownRole) f

  short : length (sheet_lines (shown_by c.in-Some.names) (row_of looked.row) (verdict_number looked.verdict)) ≤ longest_sheet
  short =
      let good = look-row c.args.area.now c.args.p c.args.s in
      omega (arith, ap length same, sheet-length f (names-short c.args.works.now c.args.standard.now are-tables) row (meaning.decide row c.args.s).answer good.0 good.1)

-- ---- the refusals

pub returns-then-is_of_bad_area : goal.returns-then-is_of_bad_area
returns-then-is_of_bad_area c =
    let e : c.look-looked.result ≡ Err BadArea = c.is_of_bad_area.ensures.0 c.if-is_of_bad_area.true in
    prints-kept unwritten.BadArea
    (sheet-bad-area c.args.area.now c.args.works.now c.args.standard.now c.args.p c.args.s c.args.out.now (refused-says c.args.area.now c.args.p c.args.s BadArea (rw e at (c.look-looked.ensures))))

pub returns-in_default : goal.returns-in_default
returns-in_default c =
    prints-kept unwritten.BadNameTable
    (sheet-bad-table c.args.area.now c.args.works.now c.args.standard.now c.args.p c.args.s c.args.out.now (not-1 (goal.at.returns-in_default c).After-is_of_bad_area c.if-is_of_bad_area.false)
    (unmade-bad c.args.works c.args.standard c.in_default.ensures))

pub returns-in-Err : goal.returns-in-Err
returns-in-Err c =
    let a = goal.at.returns-in-Err c in
    prints-kept c.refused_behind.result
    (refused-late c.args.area.now c.args.p c.args.s c.args.works.now c.args.standard.now c.args.out.now _ c.in-Err.refusal (rw c.in-Err.is at (c.look-looked.ensures)) c.refused_behind.ensures
    (not-1 a.After-is_of_bad_area c.if-is_of_bad_area.false) (both-good a.In-Some))

pub returns-then-out-lt-SHEET_BYTES : goal.returns-then-out-lt-SHEET_BYTES
returns-then-out-lt-SHEET_BYTES c =
    let a = goal.at.returns-then-out-lt-SHEET_BYTES c in
    let no : (r : Refusal) → said c.args.area.now c.args.p c.args.s ≢ refusal_number r =
    λ r e. verdict-no-refusal c.in-Ok.looked.verdict r (sym (seen-says c.args.area.now c.args.p c.args.s c.in-Ok.looked (rw c.in-Ok.is at (c.look-looked.ensures))) ∙ e) in
    prints-kept unwritten.ShortBuffer
    (sheet-short c.args.area.now c.args.works.now c.args.standard.now c.args.p c.args.s c.args.out.now (no BadArea) (both-good a.In-Some) (no NoPermission) (no UnknownRole) c.if-out-lt-SHEET_BYTES.true)

pub write_sheet-requires : goal.write_sheet-requires
write_sheet-requires c =
    let a = goal.at.write_sheet-requires c in
    let k = a.Else-out-lt-SHEET_BYTES in
    let t = both-good a.In-Some in
    let n = named-so a.In-Some in (
      stored⇒tidy meaning.most_opens c.in-Ok.looked.row.opens (row k t n).opens (ap (λ (x : Row). x.opens) (gave k t n).1) (look-row c.args.area.now c.args.p c.args.s).1,
      omega (arith, short k t n, c.if-out-lt-SHEET_BYTES.false, ap length c.new-page.ensures.bytes, c.new-page.ensures.start),
    )

pub overflow_cast-result : goal.overflow_cast-result
overflow_cast-result c =
    let a = goal.at.overflow_cast-result c in
    omega (arith, short a.Else-out-lt-SHEET_BYTES (both-good a.In-Some) (named-so a.In-Some), c.write_sheet.ensures.wrote.next, c.new-page.ensures.start)

pub returns : goal.returns
returns c =
    let a = goal.at.returns c in
    let e = a.Else-out-lt-SHEET_BYTES in
    let t = both-good a.In-Some in
    let n = named-so a.In-Some in
    prints-shown (sheet_text (name_text c.args.works.now c.args.standard.now) (look_of c.args.area.now c.args.p c.args.s).row c.args.s)
    (sheet-writes c.args.area.now c.args.works.now c.args.standard.now c.args.p c.args.s c.args.out.now (is-not e t n BadArea) t (is-not e t n NoPermission) (is-not e t n UnknownRole) c.if-out-lt-SHEET_BYTES.false)
    (rw (← same e t n) (search rules))
