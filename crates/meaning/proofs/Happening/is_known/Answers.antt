-- `Happening::is_known` meets its contract. Assumes nothing.
use mathlib.Core.Path.{◌≡◌, sym, ap, ◌∙◌}
use mathlib.Core.Bool.{Bool}
use mathlib.Core.Logic.{◌⊎◌, ⊎_elim}
use Prim.Native.Nat.{ℕ}
use Rattle.roles.proofs.Laws.{single-part_of}
use Rattle.meaning.specs.Events.{roles_in, known}
use Rattle.meaning.specs.declared.Happening.{Happening}
use Rattle.meaning.proofs.Happening.is_known.Goals as goal

-- what is known of both of two is known of the one that it is
of-either : {b : Bool} (n : ℕ) (e d f : Happening) → (e ≡ d) ⊎ (e ≡ f) → b ≡ known n d → b ≡ known n f → b ≡ known n e
of-either {b} n e d f either p q = ⊎_elim (λ i. p ∙ sym (ap (known n) i)) (λ i. q ∙ sym (ap (known n) i)) either

pub returns-in-Given : goal.returns-in-Given
unfolding known roles_in
returns-in-Given c = let r = c.in-Given.r in let n = c.args.n in of-either _ _ _ _ c.in-Given.is (single-part_of r n) (single-part_of r n)

pub returns-in-Allow : goal.returns-in-Allow
unfolding known roles_in
returns-in-Allow c = of-either _ _ _ _ c.in-Allow.is c.is_below.ensures c.is_below.ensures
