-- The state after a row is overwritten, made or taken out, and what is known of rows by value. Assumes nothing.
use mathlib.Core.Path.{◌≡◌, sym, ap, ◌∙◌, subst⁻¹}
use mathlib.Core.Bool.{true, false}
use mathlib.Core.List.{List, []}
use Prim.Native.Nat.{ℕ, ◌≤◌, ◌<◌}
use native.Mathlib.Omega.{arith}
use lib.Dec.{T}
use lib.ListN.{length, set}
use Rattle.words.specs.Words.{Bytes}
use Rattle.roles.specs.Sets.{most_roles}
use Rattle.meaning.specs.declared.Happening.{Happening}
use Rattle.meaning.specs.Events.{known}
use Rattle.meaning.specs.Rows.{Row, blank, most_opens, fits, settle}
use Rattle.meaning.proofs.OpenLaws.{free-empty}
use Rattle.meaning.proofs.Steps.{known_more}
use Rattle.meaning.proofs.Answers.{fits-law}
use Rattle.meaning.proofs.Theorems.{settle-fits}
use Rattle.area.specs.State.{Entry, is_blank, row_for, with_row, place, insert_at, remove_at, state_of, area_of, entry}
use Rattle.area.proofs.RowLaws.{Hit, hit-law, hit-row, miss-row, place-most, row-good, put-over, put-new, put-out, put-not}
use Rattle.area.proofs.Bytes.{good-state, good-area}
use Rattle.rows.specs.declared.Row as Stored-row
use Rattle.rows.specs.Stored.{Tidy, Proper, held, row_of, stored_row}
use Rattle.rows.proofs.Padded.{stored⇒tidy, stored⇒proper, tidy-count}
use Rattle.table.specs.Table.{rows_in, Sound, holding, nth, found_for}
use Rattle.std.specs.Prelude.{Ok, Err}
use Rattle.calls.proofs.CallLaws.{event_on, event-in}
use Rattle.cache.specs.Here.{event_here}
use Rattle.cache.proofs.Places.{found_at, found-vacant}

module _ (l : List ℕ) (s : Sound l) (p i : ℕ) where
  -- where p has a row, of number i
  module _ (e : found_for p (rows_in l) ≡ Ok i) where
    hit : Hit p (rows_in l)
    hit = (found_at l s p i e).0

    here : i ≡ place p (rows_in l)
    here = (found_at l s p i e).1

    pub row_inside : i < length (rows_in l)
    row_inside = subst⁻¹ (λ (k : ℕ). k < length (rows_in l)) here hit.inside

    pub row-there : (nth i (rows_in l)).row ≡ row_for p (rows_in l)
    row-there = ap (λ (k : ℕ). (nth k (rows_in l)).row) here ∙ hit-row p (rows_in l) hit

    pub row-says : is_blank (row_for p (rows_in l)) ≡ false
    row-says = (hit-law (state_of l).roles 0 p (rows_in l) (good-state l s.good).good-rows).0 hit

    pub state-over : (w : Row) → is_blank w ≡ false → holding l (set (rows_in l) i (entry p w)) ≡ with_row (state_of l) p w
    state-over w b = ap (holding l) (ap (λ (k : ℕ). set (rows_in l) k (entry p w)) here ∙ sym (put-over p w (rows_in l) hit b))

    pub state-out : (w : Row) → is_blank w ≡ true → holding l (remove_at i (rows_in l)) ≡ with_row (state_of l) p w
    state-out w b = ap (holding l) (ap (λ (k : ℕ). remove_at k (rows_in l)) here ∙ sym (put-out p w (rows_in l) hit b))

  -- where p has none, and i is its place
  module _ (e : found_for p (rows_in l) ≡ Err i) where
    miss : ¬ (Hit p (rows_in l))
    miss = (found-vacant l s p i e).0

    place_is : i ≡ place p (rows_in l)
    place_is = (found-vacant l s p i e).1

    pub place_inside : i ≤ length (rows_in l)
    place_inside = subst⁻¹ (λ (k : ℕ). k ≤ length (rows_in l)) place_is (place-most p (rows_in l))

    pub row-none : row_for p (rows_in l) ≡ blank
    row-none = miss-row (state_of l).roles 0 p (rows_in l) (good-state l s.good).good-rows miss

    pub event-none : (h : Happening) → event_here l p h ≡ event_on l (state_of l) p h blank
    event-none h = event-in l p h (state_of l).policy ∙ ap (event_on l (state_of l) p h) row-none

    pub state-new : (w : Row) → is_blank w ≡ false → holding l (insert_at i (entry p w) (rows_in l)) ≡ with_row (state_of l) p w
    state-new w b = ap (holding l) (ap (λ (k : ℕ). insert_at k (entry p w) (rows_in l)) place_is ∙ sym (put-new p w (rows_in l) miss b))

    -- no row stays no row, and the area is as it came
    pub area-kept : (w : Row) → is_blank w ≡ true → Bytes l → area_of (with_row (state_of l) p w) ≡ l
    area-kept w b bytes = ap (λ (es : List Entry). area_of (holding l es)) (put-not p w (rows_in l) miss b) ∙ good-area l s.good bytes

-- ---- rows by value

module _ (l : List ℕ) (s : Sound l) (i : ℕ) (h : i < length (rows_in l)) (w : Stored-row.Row) (e : w ≡ stored_row (nth i (rows_in l)).row) where
  -- the rules of a good area ask that no open set is part of another
  pub read-proper : Proper w.opens
  read-proper =
      let g = (row-good (state_of l).roles 0 (rows_in l) (good-state l s.good).good-rows i h).good-row in
      stored⇒proper w.opens (nth i (rows_in l)).row.opens (ap (λ (x : Stored-row.Row). x.opens) e) g.few g.good.free

pub blank-proper : (w : Stored-row.Row) → w ≡ stored_row blank → Proper w.opens
blank-proper w e = stored⇒proper w.opens [] (ap (λ (x : Stored-row.Row). x.opens) e) (omega arith) free-empty

pub fitting-tidy : (w : Stored-row.Row) (v : Row) → w ≡ stored_row v → fits v ≡ true → Tidy most_opens w.opens
fitting-tidy w v e f = stored⇒tidy most_opens w.opens v.opens (ap (λ (x : Stored-row.Row). x.opens) e) ((fits-law v).0 (subst⁻¹ T f tt))

-- ---- events

pub recorded-tidy : (e : Happening) (w : Stored-row.Row) (r : Stored-row.Row) → Tidy most_opens w.opens → r ≡ stored_row (settle fits e (row_of w)).row → Tidy most_opens r.opens
recorded-tidy e w r t q =
    let few : length (held w.opens) ≤ most_opens = let f = t.few in omega (arith, tidy-count most_opens w.opens t (omega arith)) in
    stored⇒tidy most_opens r.opens (settle fits e (row_of w)).row.opens (ap (λ (x : Stored-row.Row). x.opens) q)
    ((fits-law (settle fits e (row_of w)).row).0 (settle-fits e (row_of w) ((fits-law (row_of w)).1 few)))

-- a known event is known among all roles that there may be
pub known-64 : (l : List ℕ) → Sound l → (e : Happening) → T (known (state_of l).roles e) → T (known most_roles e)
known-64 l s e k = known_more (state_of l).roles most_roles e (good-state l s.good).most-roles k
