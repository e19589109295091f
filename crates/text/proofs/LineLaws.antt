-- Up to the first LF. Assumes nothing.
use mathlib.Core.Path.{◌≡◌, refl, ap}
use mathlib.Core.Bool.{Bool, true, false, cond}
use mathlib.Core.List.{List, [], ◌∷◌}
use Prim.Native.Nat.{ℕ, suc, ◌≤◌}
use native.Mathlib.Omega.{arith}
use borrow.Author.Tests.{ltb-false}
use lib.Dec.{ltb, eqb}
use lib.ListN.{length}
use Rattle.std.specs.Prelude.{Some, None, position}
use Rattle.std.specs.List.{position_or_len}
use Rattle.std.specs.Option.{unwrap_or}
use Rattle.std.proofs.lemmas.List.Recursion.{is_position_or_len}
use Rattle.text.specs.Ascii.{lf}
use Rattle.text.specs.Lines.{before_lf}

pub before-most : (bs : List ℕ) → before_lf bs ≤ length bs
unfolding before_lf
before-most [] = omega arith
before-most (b ∷ bs) = go (eqb b lf) (before-most bs)
  where
    go : (t : Bool) → before_lf bs ≤ length bs → cond t 0 (suc (before_lf bs)) ≤ suc (length bs)
    go true h = omega arith
    go false h = omega arith

-- what `position` finds of an LF; the length where it finds none
pub before-found : (bs : List ℕ) → unwrap_or (position (λ b. eqb b lf) bs) (length bs) ≡ before_lf bs
unfolding before_lf
before-found bs = rw (← before-position) (go (ltb (before_lf bs) (length bs)) refl)
  where
    before-position : before_lf bs ≡ position_or_len (λ b. eqb b lf) bs
    before-position = is_position_or_len before_lf (λ b. eqb b lf) refl (λ b bs. ap (λ (n : ℕ). cond (eqb b lf) 0 n) (omega arith)) bs

    go : (t : Bool) → ltb (before_lf bs) (length bs) ≡ t → unwrap_or (cond t (Some (before_lf bs)) None) (length bs) ≡ before_lf bs
    go true e = refl
    go false e = omega (arith, before-most bs, ltb-false (before_lf bs) (length bs) e)
