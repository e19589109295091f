-- `cache::enter_over` meets its contract. Assumes nothing.
use borrow.Author.Rules.{rules}
use mathlib.Core.Path.{◌≡◌, refl, sym, ap, ◌∙◌, subst}
use mathlib.Core.List.{List}
use Prim.Native.Nat.{ℕ}
use lib.ListN.{length}
use Rattle.std.specs.Prelude.{Ok}
use Rattle.std.proofs.lemmas.Result.{err_from_is_err_and}
use Rattle.meaning.specs.declared.Happening.{Happening}
use Rattle.meaning.specs.Rows.{Row, blank, fits, Settled, forgotten, settle}
use Rattle.area.specs.Layout.{area_bytes}
use Rattle.area.specs.State.{row_for, with_row, words_of, state_of, area_of}
use Rattle.rows.specs.declared.Row as value
use Rattle.rows.specs.declared.Refusal.{Refusal}
use Rattle.rows.specs.Stored as rows
use Rattle.rows.specs.Stored.{Proper, row_of, stored_row, refusal_number}
use Rattle.rows.proofs.Padded.{stored⇒row}
use Rattle.table.specs.Table.{rows_in, Sound, found_for}
use Rattle.calls.specs.Calls.{stays, settled_in}
use Rattle.calls.specs.Answers.{Gives}
use Rattle.calls.proofs.CallLaws.{event-in}
use Rattle.cache.specs.Here.{event_here}
use Rattle.cache.proofs.Places.{bytes-are}
use Rattle.cache.proofs.Ladder.{gives, settled-over, refused-stays, settled-stays, settled-writes}
use Rattle.cache.proofs.Writes.{row_inside, row-there, row-says, state-out, read-proper, recorded-tidy, known-64}
use Rattle.cache.proofs.enter_over.Goals.{After-row_at, After-settle}
use Rattle.cache.proofs.enter_over.Goals as goal

-- ---- the cases, by the answer of the step

module _ (l : List ℕ) (s : Sound l) (p i : ℕ) (e : Happening) (f : found_for p (rows_in l) ≡ Ok i) where
  abbrev v : Row
  v = row_for p (rows_in l)

  over : event_here l p e ≡ settled_in l (state_of l) p (settle fits e v)
  over = event-in l p e (state_of l).policy ∙ settled-over l (state_of l) p e v (row-says l s p i f)

  -- 6 and 7
  refuses : (r : Refusal) → (settle fits e v).answer ≡ refusal_number r → Gives (event_here l p e) (refusal_number r) l
  refuses r a = gives (event_here l p e) (refusal_number r) l (over ∙ settled-stays l (state_of l) p (settle fits e v) (refusal_number r) a (refused-stays r))

  puts : (w : value.Row) (m : List ℕ) → (settle fits e v).answer ≡ 0 → w ≡ stored_row (settle fits e v).row → m ≡ area_of (with_row (state_of l) p (row_of w)) → Gives (event_here l p e) 0 m
  puts w m a x q =
      gives (event_here l p e) 0 m
      (over ∙ settled-writes l (state_of l) p (settle fits e v) 0 a refl
      ∙ ap (stays 0) (sym (q ∙ ap (λ (y : Row). area_of (with_row (state_of l) p y)) (stored⇒row w (settle fits e v).row x))))

  drops : (m : List ℕ) → settle fits e v ≡ forgotten → m ≡ area_of (with_row (state_of l) p blank) → Gives (event_here l p e) 8 m
  drops m a q = gives (event_here l p e) 8 m (over ∙ ap (settled_in l (state_of l) p) a ∙ ap (stays 8) (sym q))

-- ---- the needs

pub row_at-requires : goal.row_at-requires
row_at-requires c =
    (c.requires.0, row_inside c.args.a.now c.requires.0 c.args.p c.args.i c.requires.1)

-- the row at hand is a good one
proper : (c : After-row_at) → Proper c.row_at.result.opens
proper c =
    let a = c.args in
    read-proper a.a.now c.requires.0 a.i (row_inside a.a.now c.requires.0 a.p a.i c.requires.1) c.row_at.result c.row_at.ensures

pub settle-requires : goal.settle-requires
settle-requires c = (proper (goal.at.settle-requires c).After-row_at, known-64 c.args.a.now c.requires.0 c.args.e c.requires.2)

-- and it is the permission's own
said : (c : After-settle) → rows.Gives (row_for c.args.p (rows_in c.args.a.now)) (settle fits c.args.e (row_for c.args.p (rows_in c.args.a.now))) c.settle.result
said c =
    subst (λ (w : Row). rows.Gives w (settle fits c.args.e w) c.settle.result)
    (stored⇒row c.row_at.result _ c.row_at.ensures ∙ row-there c.args.a.now c.requires.0 c.args.p c.args.i c.requires.1) c.settle.ensures

pub returns-in_err-w : goal.returns-in_err-w
returns-in_err-w c =
    let q = err_from_is_err_and c.from_residual.result c.from_residual.ensures.1 in
    let g = rw c.in_err-w.was at (said (goal.at.returns-in_err-w c).After-settle) in
    rw (q.1, q.2) (refuses c.args.a.now c.requires.0 c.args.p c.args.i c.args.e c.requires.1 c.in_err-w.field-0.0 (ap (λ (t : Settled). t.answer) g))

pub put_over-requires : goal.put_over-requires
put_over-requires c =
    let g = rw (c.in_ok-w.was, c.in-Recorded.is) at (c.settle.ensures) in
    (c.requires.0, c.requires.1, recorded-tidy c.args.e c.row_at.result c.in-Recorded.w (proper (goal.at.put_over-requires c).After-row_at).tidy g.1)

pub remove_at-requires : goal.remove_at-requires
remove_at-requires c = (c.requires.0, row_inside c.args.a.now c.requires.0 c.args.p c.args.i c.requires.1)

pub returns-in-Recorded : goal.returns-in-Recorded
returns-in-Recorded c =
    let g = rw (c.in_ok-w.was, c.in-Recorded.is) at (said (goal.at.returns-in-Recorded c).After-settle) in
    puts c.args.a.now c.requires.0 c.args.p c.args.i c.args.e c.requires.1 _ _ g.0 g.1 c.put_over.ensures

pub returns-in-Forgotten : goal.returns-in-Forgotten
returns-in-Forgotten c =
    let g = rw (c.in_ok-w.was, c.in-Forgotten.is) at (said (goal.at.returns-in-Forgotten c).After-settle) in
    let end = c.remove_at.new.a in
    let len : length end ≡ area_bytes = search rules in
    drops c.args.a.now c.requires.0 c.args.p c.args.i c.args.e c.requires.1 end g
    (bytes-are end _ (λ p. (c.type_inv.a p).fits) len (c.remove_at.ensures ∙ ap words_of (state-out c.args.a.now c.requires.0 c.args.p c.args.i c.requires.1 blank refl)))
