-- `text::line_end` meets its contract. Assumes nothing.
use borrow.Author.Rules.{rules}
use borrow.Author.Tests.{tests}
use mathlib.Core.List.{List, []}
use mathlib.Core.Logic.{⊎_elim}
use mathlib.Core.Path.{◌≡◌, refl, sym, ap, ◌∙◌}
use native.Mathlib.Omega.{arith}
use denote.Bor.{Bor}
use lib.Dec.{eqb}
use lib.ListN.{length, drop, drop_of_length-le}
use Prim.Native.Nat.{ℕ, ◌+◌}
use Rattle.std.specs.Prelude.{Option, Some, None}
use Rattle.std.specs.Option.{unwrap_or}
use Rattle.std.specs.Slice.{IsGetRangeResult}
use Rattle.std.proofs.lemmas.Iterator.{YieldsList-from_slice}
use Rattle.std.proofs.lemmas.Iterator.Search.{position_from_yields_List}
use Rattle.text.specs.Ascii.{lf}
use Rattle.text.specs.Lines.{before_lf}
use Rattle.text.proofs.LineLaws.{before-found}
use Rattle.text.proofs.Walks.{rest-range}
use Rattle.text.proofs.line_end.Goals as goal

-- what `get` lends from a place on, or nothing
rest-lent : (line : List ℕ) (at : ℕ) (r : Option (Bor (List ℕ))) (d : Bor (List ℕ)) → IsGetRangeResult line at (length line) r → d.now ≡ [] → (unwrap_or r d).now ≡ drop at line
rest-lent line at None d g e = e ∙ ⊎_elim (λ h. sym (drop_of_length-le line (omega arith))) (λ h. absurd (omega arith)) g.0
rest-lent line at (Some x) d g e = g.0.2 ∙ rest-range line at

pub returns : goal.returns
returns c =
    let line = c.args.line.now in
    let at = c.args.at in
    let rest = c.unwrap_or-rest.result.now in
    ap (λ (n : ℕ). at + n)
    (c.unwrap_or.ensures
    ∙ ap (λ o. unwrap_or o (length rest))
    (position_from_yields_List (λ b. eqb b lf) _ _ c.position.result c.position.ensures.ran (YieldsList-from_slice rest cc) (λ x b q k. search (rules, tests)))
    ∙ before-found rest
    ∙ ap before_lf (ap (λ (x : Bor (List ℕ)). x.now) c.unwrap_or-rest.ensures ∙ rest-lent line at c.get.result _ c.get.ensures.lookup refl))
