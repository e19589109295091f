-- Numbers as text: decimal without leading zeros. A text is its list of bytes.
--     digits, number_text n  the text of n
--     Got                    what reading gives: `found` with the value and the bytes behind its text, or `bad`
--     is_digit c             c is one of `0` to `9`
--     digit_next s           s begins with a digit
--     next_is b s            s begins with the byte b
--     grown v c              the value v with the digit c behind it
--     read_more limit v s    the digits that s begins with, behind others of the value v
--     read_number limit s    the number of at most the limit that s begins with
use Rattle.std.specs.Prelude.{Bool, false, cond, ◌&&◌, List, [], ◌∷◌, ◌++◌, ℕ, zero, suc, ◌+◌, ◌-◌, ◌*◌, ◌/◌, ◌%◌, ltb, leb, eqb, drop}
use Rattle.text.specs.Ascii.{digit_zero, digit_nine}

-- the text of n, where at most k digits stand before its last; k = n is always enough
unfoldable pub digits : ℕ → ℕ → List ℕ
digits zero n = (digit_zero + n) ∷ []
digits (suc k) n = cond (ltb n 10) ((digit_zero + n) ∷ []) (digits k (n / 10) ++ ((digit_zero + n % 10) ∷ []))

unfoldable pub number_text : ℕ → List ℕ
number_text n = digits n n

pub data Got : Type 0 where
  found : ℕ → List ℕ → Got
  bad : Got

unfoldable pub is_digit : ℕ → Bool
is_digit c = leb digit_zero c && leb c digit_nine

unfoldable pub digit_next : List ℕ → Bool
digit_next [] = false
digit_next (c ∷ s) = is_digit c

unfoldable pub next_is : ℕ → List ℕ → Bool
next_is b [] = false
next_is b (c ∷ s) = eqb c b

abbrev pub grown : ℕ → ℕ → ℕ
grown v c = v * 10 + (c - digit_zero)

unfoldable pub read_more : ℕ → ℕ → List ℕ → Got
read_more limit v [] = found v []
read_more limit v (c ∷ s) = cond (is_digit c) (cond (leb (grown v c) limit) (read_more limit (grown v c) s) bad) (found v (c ∷ s))

-- a `0` stands alone
unfoldable pub read_number : ℕ → List ℕ → Got
read_number limit s = cond (next_is digit_zero s) (cond (digit_next (drop 1 s)) bad (found 0 (drop 1 s))) (cond (digit_next s) (read_more limit 0 s) bad)
