-- The sheet as a call, refusal by refusal. Assumes nothing.
use mathlib.Core.Path.{◌≡◌, ap}
use mathlib.Core.Bool.{true, false, ◌&&◌}
use mathlib.Core.List.{List}
use mathlib.Core.Logic.{◌≢◌}
use Prim.Native.Nat.{ℕ, ◌≤◌, ◌<◌}
use borrow.Author.Tests.{eq-eqb, ne_eqb, lt-ltb, le-ltb}
use lib.ListN.{length}
use Rattle.meaning.specs.Rows.{Decided}
use Rattle.written.specs.Print.{kept, shown}
use Rattle.calls.specs.Calls.{look_of}
use Rattle.calls.proofs.CallLaws.{look-answers}
use Rattle.names.specs.Names.{good_table}
use Rattle.sheet.specs.Text.{name_text, sheet_lines, sheet_text}
use Rattle.sheet.specs.Sheet.{sheet_bytes, sheet_of}

module _ (l works standard : List ℕ) (p s : ℕ) (d : List ℕ) where
  abbrev pub said : ℕ
  said = (look_of l p s).decided.answer

  pub sheet-bad-area : said ≡ 1 → sheet_of l works standard p s d ≡ kept 1 d
  unfolding sheet_of
  sheet-bad-area e = rw (eq-eqb said 1 e)

  module _ (n : said ≢ 1) where
    pub sheet-bad-table : (good_table works && good_table standard) ≡ false → sheet_of l works standard p s d ≡ kept 17 d
    unfolding sheet_of
    sheet-bad-table t = rw (ne_eqb said 1 n, t)

    module _ (t : (good_table works && good_table standard) ≡ true) where
      pub sheet-no-permission : said ≡ 3 → sheet_of l works standard p s d ≡ kept 3 d
      unfolding sheet_of
      sheet-no-permission e = rw (ne_eqb said 1 n, t, eq-eqb said 3 e)

      module _ (u : said ≢ 3) where
        pub sheet-unknown : said ≡ 4 → sheet_of l works standard p s d ≡ kept 4 d
        unfolding sheet_of
        sheet-unknown e = rw (ne_eqb said 1 n, t, ne_eqb said 3 u, eq-eqb said 4 e)

        module _ (v : said ≢ 4) where
          pub sheet-short : length d < sheet_bytes → sheet_of l works standard p s d ≡ kept 16 d
          unfolding sheet_of
          sheet-short h = rw (ne_eqb said 1 n, t, ne_eqb said 3 u, ne_eqb said 4 v, lt-ltb (length d) sheet_bytes h)

          pub sheet-writes : sheet_bytes ≤ length d → sheet_of l works standard p s d ≡ shown (sheet_text (name_text works standard) (look_of l p s).row s) d
          unfolding sheet_of
          sheet-writes h = rw (ne_eqb said 1 n, t, ne_eqb said 3 u, ne_eqb said 4 v, le-ltb (length d) sheet_bytes h)

          -- the answer of the look is that of the row
          pub sheet-lines : (f : ℕ → List ℕ) → sheet_lines f (look_of l p s).row said ≡ sheet_text f (look_of l p s).row s
          sheet-lines f = ap (λ (x : Decided). sheet_lines f (look_of l p s).row x.answer) (look-answers l p s n u v)
