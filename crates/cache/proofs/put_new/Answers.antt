-- `cache::put_new` meets its contract. Assumes nothing.
use borrow.Author.Rules.{rules}
use mathlib.Core.Path.{◌≡◌, refl, sym, ap, ◌∙◌}
use mathlib.Core.Bool.{Bool, true, false, cond}
use mathlib.Core.List.{List}
use Prim.Native.Nat.{ℕ, ◌≤◌, ◌<◌}
use native.Mathlib.Omega.{arith}
use lib.ListN.{length}
use Rattle.words.specs.Words.{Bytes}
use Rattle.meaning.specs.declared.Happening.{Happening}
use Rattle.meaning.specs.Events.{is_reply}
use Rattle.meaning.specs.Rows.{Row, blank, fits, contradicts, step}
use Rattle.area.specs.Layout.{most_rows, area_bytes}
use Rattle.area.specs.State.{is_blank, row_for, with_row, words_of, state_of, area_of}
use Rattle.rows.specs.Stored.{row_of}
use Rattle.rows.specs.declared.Row as value
use Rattle.rows.proofs.Padded.{stored⇒row}
use Rattle.table.specs.Table.{rows_in, Sound, found_for}
use Rattle.std.specs.Prelude.{Err}
use Rattle.calls.specs.Calls.{Out, stays}
use Rattle.calls.specs.Answers.{Gives}
use Rattle.cache.specs.Fresh.{Fresh}
use Rattle.roles.proofs.Tests.{T_true, T_false}
use Rattle.cache.proofs.Places.{bytes-are}
use Rattle.calls.proofs.CallLaws.{fits_in-blank, fits_in-room, fits_in-none, event-unfit, event-recorded}
use Rattle.cache.specs.Here.{event_here}
use Rattle.cache.proofs.Ladder.{gives}
use Rattle.cache.proofs.Writes.{place_inside, row-none, event-none, state-new, area-kept, fitting-tidy}
use Rattle.cache.proofs.put_new.Goals.{Start}
use Rattle.cache.proofs.put_new.Goals as goal

-- ---- the cases

module _ (l : List ℕ) (s : Sound l) (p i : ℕ) (e : Happening) (w : value.Row) (f : found_for p (rows_in l) ≡ Err i) (h : Fresh e w) where
  clear : contradicts e blank ≡ false
  clear = T_false (contradicts e blank) h.agrees

  room : fits (step e blank) ≡ true
  room = T_true (fits (step e blank)) h.room

  same : row_of w ≡ step e blank
  same = stored⇒row w (step e blank) h.row

  empty : is_blank (row_for p (rows_in l)) ≡ true
  empty = ap is_blank (row-none l s p i f)

  nothing : Bytes l → is_blank (row_of w) ≡ true → Gives (event_here l p e) 0 l
  nothing bytes b =
      let q = sym (ap is_blank same) ∙ b in
      gives (event_here l p e) 0 l
      (event-none l s p i f e ∙ event-recorded l (state_of l) p e blank clear (fits_in-blank (state_of l) p (step e blank) room q) ∙ ap (stays 0) (area-kept l s p i f (step e blank) q bytes))

  either : (b : Bool) → cond b (stays 7 l) (stays 8 l) ≡ stays (cond b 7 8) l
  either true = refl
  either false = refl

  no_more : Bytes l → is_blank (row_of w) ≡ false → most_rows ≤ length (rows_in l) → (a : ℕ) → a ≡ cond (is_reply e) 7 8 → Gives (event_here l p e) a l
  no_more bytes b m a q =
      gives (event_here l p e) a l
      (event-none l s p i f e
      ∙ event-unfit l (state_of l) p e blank clear (fits_in-none (state_of l) p (step e blank) room empty (sym (ap is_blank same) ∙ b) m)
      ∙ ap (λ (o : Out). cond (is_reply e) (stays 7 l) o) (ap (stays 8) (area-kept l s p i f blank refl bytes))
      ∙ either (is_reply e)
      ∙ ap (λ (n : ℕ). stays n l) (sym q))

  made : (m : List ℕ) → length (rows_in l) < most_rows → m ≡ area_of (with_row (state_of l) p (row_of w)) → Gives (event_here l p e) 0 m
  made m u q =
      gives (event_here l p e) 0 m
      (event-none l s p i f e
      ∙ event-recorded l (state_of l) p e blank clear (fits_in-room (state_of l) p (step e blank) room u)
      ∙ ap (stays 0) (sym (q ∙ ap (λ (x : Row). area_of (with_row (state_of l) p x)) same)))

-- ---- the needs

pub is_blank-requires : goal.is_blank-requires
is_blank-requires c =
    fitting-tidy c.args.w _ c.requires.2.row (T_true _ c.requires.2.room)

pub returns-then-is_blank : goal.returns-then-is_blank
returns-then-is_blank c =
    nothing c.args.a.now c.requires.0 c.args.p c.args.i c.args.e c.args.w c.requires.1 c.requires.2
    (λ p. (c.slice_known-1.given p).fits) (sym c.is_blank.ensures ∙ c.if-is_blank.true)

pub returns-then-rows_used-eq-MOST_ROWS : goal.returns-then-rows_used-eq-MOST_ROWS
returns-then-rows_used-eq-MOST_ROWS c =
    let l = c.args.a.now in
    no_more l c.requires.0 c.args.p c.args.i c.args.e c.args.w c.requires.1 c.requires.2
    (λ p. (c.slice_known-1.given p).fits) (sym c.is_blank.ensures ∙ c.if-is_blank.false)
    (omega (arith, c.rows_used.ensures, c.if-rows_used-eq-MOST_ROWS.true)) _ c.no_room.ensures

pub insert_at-requires : goal.insert_at-requires
insert_at-requires c =
    let l = c.args.a.now in
    let few : length (rows_in l) < most_rows = omega (arith, c.rows_used.ensures, c.requires.0.few) in
    (c.requires.0, place_inside l c.requires.0 c.args.p c.args.i c.requires.1, few, fitting-tidy c.args.w _ c.requires.2.row (T_true _ c.requires.2.room))

pub returns : goal.returns
returns c =
    let l = c.args.a.now in
    let few : length (rows_in l) < most_rows = omega (arith, c.rows_used.ensures, c.requires.0.few) in
    let end = c.insert_at.new.a in
    let len : length end ≡ area_bytes = search rules in
    made l c.requires.0 c.args.p c.args.i c.args.e c.args.w c.requires.1 c.requires.2 end few
    (bytes-are end _ (λ p. (c.slice_known-2-1.given p).fits) len
    (c.insert_at.ensures ∙ ap words_of (state-new l c.requires.0 c.args.p c.args.i c.requires.1 (row_of c.args.w) (sym c.is_blank.ensures ∙ c.if-is_blank.false))))
