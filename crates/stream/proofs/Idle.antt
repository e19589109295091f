-- The code's test for an idle program is that of a run. Assumes nothing.
use mathlib.Core.Path.{◌≡◌, sym, ap, ◌∙◌}
use mathlib.Core.Bool.{Bool, not, ◌&&◌}
use mathlib.Core.List.{List}
use Prim.Native.Nat.{ℕ, ◌-◌}
use native.Mathlib.Decide.{dec_le}
use native.Mathlib.Omega.{arith}
use borrow.Author.Tests.{eq-eqb, ne_eqb, le-leb, lt-leb}
use lib.Dec.{eqb, leb, ltb}
use lib.ListN.{length, drop, length-take, length-drop}
use Rattle.area.specs.Layout.{most_rows}
use Rattle.lines.specs.Run.{row_number}
use Rattle.lines.specs.Program.{idle}
use Rattle.stream.specs.declared.Flow.{Flow}
use Rattle.stream.specs.Turns.{unread, Within, place_in}

module _ (f : Flow) (l bs : List ℕ) (w : Within f bs) where
  nothing-unread : leb f.to f.from ≡ eqb (length (unread f bs)) 0
  nothing-unread =
      let from = w.from in
      let to = w.to in
      let long : length (unread f bs) ≡ f.to - f.from = length-take (f.to - f.from) (drop f.from bs) ∙ omega (arith, length-drop f.from bs) in
      elim (dec_le f.to f.from) [
        | yes h ↦ le-leb f.to f.from h ∙ sym (eq-eqb (length (unread f bs)) 0 (omega (arith, long)))
        | no h ↦ lt-leb f.to f.from (omega arith) ∙ sym (ne_eqb (length (unread f bs)) 0 (λ e. omega (arith, long)))
      ]

  pub idle-is : (not (ltb (row_number f.run.row) most_rows) && leb f.to f.from) ≡ idle (place_in f l bs)
  idle-is = ap (λ (x : Bool). not (ltb (row_number f.run.row) most_rows) && x) nothing-unread
