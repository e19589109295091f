-- The answer to an event on a good area, by what the row's step comes to. Assumes nothing.
use mathlib.Core.Path.{◌≡◌, refl, sym, ap}
use mathlib.Core.Bool.{true, false, ◌||◌}
use mathlib.Core.List.{List}
use mathlib.Core.Logic.{◌≢◌}
use Prim.Native.Nat.{ℕ}
use lib.Dec.{eqb}
use Rattle.roles.proofs.Tests.{unlike}
use Rattle.meaning.specs.declared.Happening.{Happening}
use Rattle.meaning.specs.Rows.{Row, fits, step, Settled, settle}
use Rattle.meaning.proofs.Answers.{settle-by, settle-refuses}
use Rattle.area.specs.State.{State, is_blank, row_for, with_row}
use Rattle.rows.specs.declared.Refusal.{Refusal}
use Rattle.rows.specs.declared.Refusal.TheVariants.{Contradiction, Full}
use Rattle.rows.specs.Stored.{refusal_number}
use Rattle.calls.specs.Calls.{Out, stays, writes, fits_in, settled_in}
use Rattle.calls.specs.Answers.{Gives}
use Rattle.calls.proofs.CallLaws.{fits_in-row, unfit, event_on}

pub gives : (o : Out) (a : ℕ) (l : List ℕ) → o ≡ stays a l → Gives o a l
gives o a l e = record { answer = sym (ap (λ (x : Out). x.answer) e); area = sym (ap (λ (x : Out). x.area) e) }

-- on an area l that holds s, where w is the row of p
module _ (l : List ℕ) (s : State) (p : ℕ) (e : Happening) (w : Row) where
  -- where p has a row, there is room for another in its place
  pub settled-over : is_blank (row_for p s.rows) ≡ false → event_on l s p e w ≡ settled_in l s p (settle fits e w)
  unfolding event_on
  settled-over b = ap (settled_in l s p) (settle-by (fits_in s p) fits e w (fits_in-row s p (step e w) b))

  -- what the row alone refuses needs no room
  pub settled-refused : (settle fits e w).answer ≢ 0 → event_on l s p e w ≡ settled_in l s p (settle fits e w)
  unfolding event_on
  settled-refused n = ap (settled_in l s p) (settle-refuses fits (fits_in s p) e w (unfit s p (step e w)) n)

-- what a row refuses is 6 or 7
pub refused-stays : (r : Refusal) → (eqb (refusal_number r) 0 || eqb (refusal_number r) 8) ≡ false
refused-stays Contradiction = refl
refused-stays Full = refl

pub refused-some : (r : Refusal) → refusal_number r ≢ 0
refused-some Contradiction e = unlike tt e
refused-some Full e = unlike tt e

module _ (l : List ℕ) (s : State) (p : ℕ) (t : Settled) where
  pub settled-stays : (a : ℕ) → t.answer ≡ a → (eqb a 0 || eqb a 8) ≡ false → settled_in l s p t ≡ stays a l
  settled-stays a q n = rw q (rw n)

  pub settled-writes : (a : ℕ) → t.answer ≡ a → (eqb a 0 || eqb a 8) ≡ true → settled_in l s p t ≡ writes a (with_row s p t.row)
  settled-writes a q n = rw q (rw n)
