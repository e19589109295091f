-- `check::used_rows_good` meets its contract: the rows passed are good, `last` is the permission before. Assumes nothing.
use borrow.Author.Rules.{rules}
use mathlib.Core.Path.{◌≡◌, refl, sym, ◌∙◌}
use mathlib.Core.Bool.{Bool, true, false, ◌&&◌}
use mathlib.Core.List.{List}
use Prim.Native.Nat.{ℕ, ◌+◌, ◌*◌, ◌<◌}
use native.Mathlib.Omega.{arith}
use lib.Dec.{ltb, leb}
use lib.ListN.{take, drop}
use Rattle.words.specs.Words.{words}
use Rattle.meaning.specs.Rows.{most_opens}
use Rattle.opens.specs.Opens.{body_good, few_opens}
use Rattle.opens.proofs.Halves.{half-fails, halves-pass}
use Rattle.area.specs.Layout.{most_rows, body_words, bodies_at, permission_before, each_below, good_row_at}
use Rattle.area.specs.Parts.{good_but_wide}
use Rattle.area.proofs.CheckLaws.{permission-word, row_made, each_more, each-broken, before_more, rows_made, row-fails}
use Rattle.area.proofs.check.used_rows_good.Goals.{After-struct_known-in-loop-i-1}
use Rattle.area.proofs.check.used_rows_good.Goals as goal

-- ---- the row at hand, once its words are read

module _ (c : After-struct_known-in-loop-i-1) where
  abbrev start : After-struct_known-in-loop-i-1
  start = c

  abbrev i : ℕ
  i = c.loop-i.i

  abbrev ws : List ℕ
  ws = words start.args.a.now

  abbrev count : ℕ
  count = c.get_word-count.result

  abbrev denied : ℕ
  denied = c.get_word.result

  -- the tests that need no open set
  abbrev first : Bool
  first =
      (ltb c.loop-i.last c.get_word-p.result && leb count most_opens) && leb denied start.args.all.bits

  abbrev good : Bool
  good = body_good start.args.all.bits denied count (take most_opens (drop (bodies_at + i * body_words + 1) ws))

  used-row : i < start.args.used
  used-row = search rules

  row : i < most_rows
  row = let h = used-row in let k = start.requires.1 in omega arith

  made : (b : Bool) → first ≡ b → (b && good) ≡ good_but_wide ws i
  made b e =
      let at = c.loop-i in
      row_made ws i row b c.get_word-p.ensures c.get_word-count.ensures c.get_word.ensures at.invariant.2 start.requires.2 e refl

  fails : good_but_wide ws i ≡ false → false ≡ each_below start.args.used (good_row_at ws)
  fails e = each-broken (good_row_at ws) i start.args.used used-row (row-fails ws i e)

pub loop-i-init : goal.loop-i-init
unfolding permission_before
loop-i-init c = search rules

pub returns-then-not-ok : goal.returns-then-not-ok
returns-then-not-ok c = fails (goal.at.returns-then-not-ok c).After-struct_known-in-loop-i-1 (sym (made (goal.at.returns-then-not-ok c).After-struct_known-in-loop-i-1 false c.if-not-ok.true))

pub returns-then-not-places_few : goal.returns-then-not-places_few
returns-then-not-places_few c =
    fails (goal.at.returns-then-not-places_few c).After-struct_known-in-loop-i-1 (sym (made (goal.at.returns-then-not-places_few c).After-struct_known-in-loop-i-1 true c.if-not-ok.false) ∙ half-fails (ltb few_opens (count (goal.at.returns-then-not-places_few c).After-struct_known-in-loop-i-1)) (good (goal.at.returns-then-not-places_few c).After-struct_known-in-loop-i-1) (sym c.if-not-places_few.true ∙ c.places_few.ensures))

pub returns-then-not-places_many : goal.returns-then-not-places_many
returns-then-not-places_many c =
    fails (goal.at.returns-then-not-places_many c).After-struct_known-in-loop-i-1 (sym (made (goal.at.returns-then-not-places_many c).After-struct_known-in-loop-i-1 true c.if-not-ok.false) ∙ half-fails (leb (count (goal.at.returns-then-not-places_many c).After-struct_known-in-loop-i-1) few_opens) (good (goal.at.returns-then-not-places_many c).After-struct_known-in-loop-i-1) (sym c.if-not-places_many.true ∙ c.places_many.ensures))

pub loop-i-preserved : goal.loop-i-preserved
loop-i-preserved c =
    let at = c.loop-i in
    let passes = halves-pass (count (goal.at.loop-i-preserved c).After-struct_known-in-loop-i-1) (good (goal.at.loop-i-preserved c).After-struct_known-in-loop-i-1) (sym c.if-not-places_few.false ∙ c.places_few.ensures) (sym c.if-not-places_many.false ∙ c.places_many.ensures) in (
      search rules,
      each_more (good_but_wide (ws (goal.at.loop-i-preserved c).After-struct_known-in-loop-i-1)) (i (goal.at.loop-i-preserved c).After-struct_known-in-loop-i-1) at.invariant.1 (sym passes ∙ made (goal.at.loop-i-preserved c).After-struct_known-in-loop-i-1 true c.if-not-ok.false),
      before_more (ws (goal.at.loop-i-preserved c).After-struct_known-in-loop-i-1) (i (goal.at.loop-i-preserved c).After-struct_known-in-loop-i-1) (c.get_word-p.ensures ∙ permission-word (ws (goal.at.loop-i-preserved c).After-struct_known-in-loop-i-1) (i (goal.at.loop-i-preserved c).After-struct_known-in-loop-i-1) (row (goal.at.loop-i-preserved c).After-struct_known-in-loop-i-1)),
    )

pub returns : goal.returns
returns c =
    let at = c.loop-i in
    let e : at.i ≡ c.args.used = omega arith in
    rw e at (rows_made (words c.args.a.now) at.i at.last at.invariant.2 at.invariant.1)
