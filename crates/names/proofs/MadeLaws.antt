-- Names are made exactly where the test of both tables passes. Assumes nothing.
use mathlib.Core.Path.{◌≡◌, refl}
use mathlib.Core.Bool.{Bool, true, false, ◌&&◌}
use mathlib.Core.List.{List}
use Prim.Native.Nat.{ℕ}
use denote.Ref.{Bor}
use lib.Dec.{T}
use Rattle.names.specs.Names.{good_table, Tables}
use Rattle.names.specs.declared.Names.{Names}

not-both : (a b : Bool) → ¬ (T a × T b) → (a && b) ≡ false
not-both true true h = absurd (h (tt, tt))
not-both true false h = refl
not-both false b h = refl

module _ (works standard : Bor (List ℕ)) where
  pub made-good : (n : Names) → (n.works ≡ works) × (n.standard ≡ standard) → (good_table works.now && good_table standard.now) ≡ true
  made-good n e = rw (← e.0, ← e.1, n.own_good, n.other_good) refl

  pub unmade-bad : ¬ (Tables works.now standard.now) → (good_table works.now && good_table standard.now) ≡ false
  unmade-bad h = not-both (good_table works.now) (good_table standard.now) h
