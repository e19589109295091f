-- The laws of a walk: from the start on each row of a good area is handed out, and the number goes on by one; after the last,
-- and on a bad area, none, and the number stays. Assumes nothing.
use mathlib.Core.Path.{◌≡◌, refl, sym, ◌∙◌}
use mathlib.Core.Bool.{Bool, true, false, false≢true}
use mathlib.Core.List.{List}
use mathlib.Core.Logic.{⊎_elim, by_cases}
use Prim.Native.Nat.{ℕ, zero, suc, ◌+◌, ◌≤◌, ◌<◌}
use native.Mathlib.Nat.{eq-or-lt_of_le}
use native.Mathlib.Numerals.{add-one}
use native.Mathlib.Omega.{arith}
use lib.Dec.{T}
use lib.ListN.{length}
use native.Mathlib.Decide.{dec_lt}
use borrow.Author.Tests.{lt-ltb, le-ltb}
use Rattle.roles.proofs.Tests.{T_true}
use Rattle.meaning.specs.Events.{last_permission}
use Rattle.area.specs.Layout.{most_rows, good_bytes}
use Rattle.area.specs.State.{state_of}
use Rattle.area.proofs.RowLaws.{row-good}
use Rattle.area.proofs.Bytes.{good-state}
use Rattle.table.specs.Table.{Sound, rows_in, nth}
use Rattle.table.proofs.RowWords.{sound}
use Rattle.std.proofs.Common.{Some, None, Result, Ok, Err, IsErr}
use Rattle.std.specs.Borrow.{Bor}
use Rattle.walker.specs.Walk.{walked, first_row, given, handed, next_number, number_after, Walkable, start_answer, bad_area, begun, started, go_on_at}
use Rattle.walker.specs.declared.BadArea.{BadArea}
use Rattle.walker.specs.declared.Walker.{Walker}
use Rattle.walker.specs.declared.Handed.{Handed}

pub good-or-bad : (l : List ℕ) {A : Type 0} → (good_bytes l ≡ true → A) → (good_bytes l ≡ false → A) → A
good-or-bad l {A} g b = by_cases (good_bytes l) refl
  where
    by_cases : (t : Bool) → good_bytes l ≡ t → A
    by_cases true e = g e
    by_cases false e = b e

-- ---- the start

pub first_good : (l : List ℕ) → good_bytes l ≡ true → first_row l ≡ 0
unfolding first_row
first_good l e = rw e

pub first-bad : (l : List ℕ) → good_bytes l ≡ false → first_row l ≡ most_rows
unfolding first_row
first-bad l e = rw e

pub begun-good : (l : List ℕ) → good_bytes l ≡ true → begun l ≡ Ok 0
unfolding begun
begun-good l e = rw e

pub begun-bad : (l : List ℕ) → good_bytes l ≡ false → begun l ≡ Err bad_area
unfolding begun
begun-bad l e = rw e

started-good : (a : Bor (List ℕ)) → good_bytes a.now ≡ true → started a ≡ Ok (record { area = a; next = 0 })
unfolding started
started-good a e = rw e

refusal : (a : Bor (List ℕ)) → good_bytes a.now ≡ false → started a ≡ Err bad_area
unfolding started
refusal a e = rw e

pub started-at : (a : Bor (List ℕ)) (i : ℕ) → begun a.now ≡ Ok i → started a ≡ Ok (record { area = a; next = i })
started-at a i e = good-or-bad a.now (λ g. rw (started-good a g) (let h = sym (begun-good a.now g) ∙ e in cc)) (λ b. let h = sym (begun-bad a.now b) ∙ e in absurd cc)

pub started-bad : (a : Bor (List ℕ)) (x : BadArea) → begun a.now ≡ Err x → (r : Result Walker BadArea) → IsErr r → r ≡ started a
started-bad a x e r k = good-or-bad a.now (λ g. let h = sym (begun-good a.now g) ∙ e in absurd cc) (λ b. refused r k ∙ sym (refusal a b))
  where
    refused : (s : Result Walker BadArea) → IsErr s → s ≡ Err bad_area
    refused (Ok w) i = absurd (false≢true i)
    refused (Err y) i = refl

-- a walker stands at the first row of a good area
pub start-ok : (a : Bor (List ℕ)) {w : Walker} → Ok w ≡ started a → (good_bytes a.now ≡ true) × (w ≡ record { area = a; next = first_row a.now })
start-ok a {w} e = good-or-bad a.now
    (λ g. let f = first_good a.now g in let h = e ∙ started-good a g in (g, rw f (let u : w ≡ record { area = a; next = 0 } = cc in u)))
    (λ b. let h = e ∙ refusal a b in absurd cc)

pub start-err : (a : Bor (List ℕ)) {x : BadArea} → Err x ≡ started a → good_bytes a.now ≡ false
start-err a e = good-or-bad a.now (λ g. let h = e ∙ started-good a g in absurd cc) (λ b. b)

pub answer-good : (l : List ℕ) → good_bytes l ≡ true → start_answer l ≡ 0
unfolding start_answer
answer-good l e = rw e

pub answer-bad : (l : List ℕ) → good_bytes l ≡ false → start_answer l ≡ 1
unfolding start_answer
answer-bad l e = rw e

pub go_on_at-good : (l : List ℕ) (i : ℕ) → good_bytes l ≡ true → go_on_at l i ≡ i
unfolding go_on_at
go_on_at-good l i e = rw e

pub go_on_at-bad : (l : List ℕ) (i : ℕ) → good_bytes l ≡ false → go_on_at l i ≡ most_rows
unfolding go_on_at
go_on_at-bad l i e = rw e

-- ---- the rows that are walked

pub walked-good : (l : List ℕ) → T (good_bytes l) → walked l ≡ rows_in l
unfolding walked
walked-good l t = rw (T_true (good_bytes l) t)

pub walked-bad : (l : List ℕ) → good_bytes l ≡ false → length (walked l) ≡ 0
unfolding walked
walked-bad l e = rw e

pub walked-few : (l : List ℕ) → length (walked l) ≤ most_rows
walked-few l = good-or-bad l (λ e. rw (walked-good l (rw e tt)) (sound l (rw e tt)).few) (λ e. rw (walked-bad l e) (omega arith))

-- the permission of a row is valid
pub permission-valid : (l : List ℕ) → Sound l → (i : ℕ) → i < length (rows_in l) → (nth i (rows_in l)).permission ≤ last_permission
permission-valid l s i h = (row-good (state_of l).roles 0 (rows_in l) (good-state l s.good).good-rows i h).valid

-- ---- what is handed out

module _ (l : List ℕ) (i : ℕ) where
  past-walked : length (walked l) ≤ i → handed l i ≡ None
  unfolding handed
  past-walked h = rw (le-ltb i (length (walked l)) h)

  stays : length (walked l) ≤ i → next_number l i ≡ i
  unfolding next_number
  stays h = rw (le-ltb i (length (walked l)) h)

  no-row : length (walked l) ≤ i → (handed l i ≡ None) × (next_number l i ≡ i)
  no-row h = (past-walked h, stays h)

  pub row-handed : i < length (walked l) → handed l i ≡ Some (given (nth i (walked l)))
  unfolding handed
  row-handed h = rw (lt-ltb i (length (walked l)) h)

  pub goes_on : i < length (walked l) → next_number l i ≡ i + 1
  unfolding next_number
  goes_on h = rw (lt-ltb i (length (walked l)) h)

  -- a row, and the number after it
  pub walk-row : T (good_bytes l) → i < length (rows_in l) → (handed l i ≡ Some (given (nth i (rows_in l)))) × (next_number l i ≡ i + 1)
  unfolding handed
  walk-row t h = (rw (walked-good l t, lt-ltb i (length (rows_in l)) h), goes_on (rw (walked-good l t) h))

  -- after the last row none, and the number stays
  pub walk_end : T (good_bytes l) → length (rows_in l) ≤ i → (handed l i ≡ None) × (next_number l i ≡ i)
  walk_end t h = no-row (rw (walked-good l t) h)

  -- of a bad area none, and the number stays
  pub walk-bad : good_bytes l ≡ false → (handed l i ≡ None) × (next_number l i ≡ i)
  walk-bad e = no-row (rw (walked-bad l e) (omega arith))

  -- none where there is no row
  pub none-handed : handed l i ≡ None → next_number l i ≡ i
  none-handed e = by_cases (dec_lt i (length (walked l))) (λ h. let q = sym (row-handed h) ∙ e in absurd cc) (λ h. stays (omega arith))

  pub some-handed : (h : Handed) → handed l i ≡ Some h → i < length (walked l)
  some-handed h e = by_cases (dec_lt i (length (walked l))) (λ k. k) (λ k. let q = sym (past-walked (omega arith)) ∙ e in absurd cc)

  -- no row has a number from most_rows on, and the number stays
  pub walk-past : most_rows ≤ i → (handed l i ≡ None) × (next_number l i ≡ i)
  walk-past h = no-row (let m = walked-few l in omega arith)

-- ---- the number that a walk starts or goes on with may be asked for

pub first-walkable : (l : List ℕ) → Walkable l (first_row l)
first-walkable l = good-or-bad l (λ e _. sound l (rw e tt)) (λ e h. absurd (let q = first-bad l e in let z : ⊥ = omega arith in z))

pub go_on_at-walkable : (l : List ℕ) (i : ℕ) → Walkable l (go_on_at l i)
go_on_at-walkable l i = good-or-bad l (λ e _. sound l (rw e tt)) (λ e h. absurd (let q = go_on_at-bad l i e in let z : ⊥ = omega arith in z))

-- ---- a whole walk: what is handed out after k rows were asked for, and the number then

module _ (l : List ℕ) (t : T (good_bytes l)) where
  number-row : (k : ℕ) → k ≤ length (rows_in l) → number_after k l ≡ k
  unfolding number_after
  number-row zero h = first_good l (T_true (good_bytes l) t)
  number-row (suc k) h = rw (number-row k (omega arith)) ((walk-row l k t (omega arith)).1 ∙ add-one k)

  number-end : (k : ℕ) → length (rows_in l) ≤ k → number_after k l ≡ length (rows_in l)
  unfolding number_after
  number-end zero h = let q : length (rows_in l) ≡ 0 = omega arith in number-row zero (omega arith) ∙ sym q
  number-end (suc k) h =
      ⊎_elim (λ q. number-row (suc k) (omega arith) ∙ sym q) (λ u. rw (number-end k (omega arith)) ((walk_end l (length (rows_in l)) t (omega arith)).1))
      (eq-or-lt_of_le h)

  -- row k of a good area
  pub turn-row : (k : ℕ) → k < length (rows_in l) → (handed l (number_after k l) ≡ Some (given (nth k (rows_in l)))) × (number_after (suc k) l ≡ k + 1)
  turn-row k h = (rw (number-row k (omega arith)) ((walk-row l k t h).0), number-row (suc k) (omega arith) ∙ sym (add-one k))

  -- none after its last row, and the walk stays there
  pub turn_end : (k : ℕ) → length (rows_in l) ≤ k → (handed l (number_after k l) ≡ None) × (number_after (suc k) l ≡ length (rows_in l))
  turn_end k h = (rw (number-end k h) ((walk_end l (length (rows_in l)) t (omega arith)).0), number-end (suc k) (omega arith))

module _ (l : List ℕ) (e : good_bytes l ≡ false) where
  number-bad : (k : ℕ) → number_after k l ≡ most_rows
  unfolding number_after
  number-bad zero = first-bad l e
  number-bad (suc k) = rw (number-bad k) ((walk-bad l most_rows e).1)

  -- none at once
  pub turn-bad : (k : ℕ) → (handed l (number_after k l) ≡ None) × (number_after (suc k) l ≡ most_rows)
  turn-bad k = (rw (number-bad k) ((walk-bad l most_rows e).0), number-bad (suc k))
