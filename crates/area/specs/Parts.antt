-- Parts of the rules, which functions of the check test one by one.
--     good_but_wide ws i  row i is good, but for its permission, which may be above the last valid one: all rules but the first
--     zero_rows ws i n    nothing stands in the n rows from row i on
use Rattle.std.specs.Prelude.{Bool, ◌&&◌, List, ℕ, ◌*◌, take, drop}
use Rattle.words.specs.Words.{all_zero}
use Rattle.opens.specs.Opens.{all_of}
use Rattle.area.specs.Layout.{content_words, body_words, contents, bodies, row_rules}

unfoldable pub good_but_wide : List ℕ → ℕ → Bool
good_but_wide ws i = all_of (drop 1 (row_rules ws i))

unfoldable pub zero_rows : List ℕ → ℕ → ℕ → Bool
zero_rows ws i n =
    all_zero (take (n * content_words) (drop (i * content_words) (contents ws)))
    && all_zero (take (n * body_words) (drop (i * body_words) (bodies ws)))
