-- What is known at the front of a call, and the answers of an opening. Assumes nothing.
use mathlib.Core.Path.{◌≡◌, refl, sym, ap, ap₂, ◌∙◌, subst⁻¹}
use mathlib.Core.Bool.{Bool, true, false, not, ◌&&◌, ◌||◌}
use mathlib.Core.List.{List}
use Prim.Native.Nat.{ℕ}
use lib.Dec.{T, ltb, leb}
use lib.ListN.{length}
use borrow.Author.Tests.{eq-eqb, ne_eqb}
use Rattle.roles.specs.Sets.{most_roles}
use Rattle.roles.proofs.Tests.{leb-not}
use Rattle.meaning.specs.Rows as meaning
use Rattle.meaning.specs.Rows.{decide, most_opens}
use Rattle.rows.specs.Stored.{Tidy, row_of, stored_row}
use Rattle.rows.specs.declared.Row.{Row}
use Rattle.rows.proofs.Padded.{stored⇒tidy, stored⇒row}
use Rattle.area.specs.Layout.{area_bytes}
use Rattle.area.specs.State.{opened, row_for, state_of, area_of}
use Rattle.area.proofs.RowLaws.{row_for-few}
use Rattle.area.proofs.Bytes.{good-state}
use Rattle.table.specs.Table.{rows_in, Sound}
use Rattle.calls.specs.Calls.{stays, open_of}
use Rattle.calls.specs.Answers.{Gives}
use Rattle.calls.proofs.CallLaws.{open-bad-area, open-bad-count, open-recorded}
use Rattle.cache.proofs.Ladder.{gives}

-- ---- the row of a permission, by value

module _ (l : List ℕ) (s : Sound l) (p : ℕ) (w : Row) (e : w ≡ stored_row (row_for p (rows_in l))) where
  pub row-tidy : Tidy most_opens w.opens
  row-tidy =
      stored⇒tidy most_opens w.opens (row_for p (rows_in l)).opens (ap (λ (x : Row). x.opens) e)
      (row_for-few (state_of l).roles 0 p (rows_in l) (good-state l s.good).good-rows)

  pub row-decides : (t : ℕ) → decide (row_of w) t ≡ decide (row_for p (rows_in l)) t
  row-decides t = ap (λ (x : meaning.Row). decide x t) (stored⇒row w (row_for p (rows_in l)) e)

-- ---- the front of every call

pub is_true : (b : Bool) → b ≡ true → T b
is_true b e = subst⁻¹ T e tt

-- ---- opening

neither : (x y : Bool) → (not x && not y) ≡ not (x || y)
neither true y = refl
neither false y = refl

count-is : (n : ℕ) (b : Bool) → (ltb n 1 || ltb most_roles n) ≡ b → (leb 1 n && leb n most_roles) ≡ not b
count-is n b e = ap₂ (λ (x y : Bool). x && y) (leb-not 1 n) (leb-not n most_roles) ∙ neither (ltb n 1) (ltb most_roles n) ∙ ap not e

module _ (l : List ℕ) (n g : ℕ) where
  pub open-1 : (length l ≡ area_bytes → ⊥) → Gives (open_of l n g) 1 l
  open-1 h = gives (open_of l n g) 1 l (open-bad-area l n g (ne_eqb (length l) area_bytes h))

  pub open-2 : length l ≡ area_bytes → (ltb n 1 || ltb most_roles n) ≡ true → Gives (open_of l n g) 2 l
  open-2 h k = gives (open_of l n g) 2 l (open-bad-count l n g (eq-eqb (length l) area_bytes h) (count-is n true k))

  pub open-go : (m : List ℕ) → length l ≡ area_bytes → (ltb n 1 || ltb most_roles n) ≡ false → m ≡ area_of (opened n g) → Gives (open_of l n g) 0 m
  open-go m h k e = gives (open_of l n g) 0 m (open-recorded l n g (eq-eqb (length l) area_bytes h) (count-is n false k) ∙ ap (stays 0) (sym e))
