-- A list of bytes read as words of 8 bytes, the least significant byte first, and written as such.
--     Bytes l        every number of the list is a byte
--     tab n f        f 0, f 1, .. : n of them
--     number         bytes from a place on, as one number
--     word_at l i    the word of number i
--     words l        all whole words of the bytes l
--     split n x      the n lowest bytes of a number
--     bytes_of ws    the bytes of the words ws
--     Spans l n      l has whole words only, and at least n of them
--     all_zero ws    each word is zero
use Rattle.std.specs.Prelude.{◌≡◌, Bool, true, ◌&&◌, List, [], ◌∷◌, ◌++◌, ℕ, zero, suc, ◌+◌, ◌*◌, ◌/◌, ◌%◌, ◌≤◌, ◌<◌, eqb, length, get_or}

abbrev pub Bytes : List ℕ → Type 0
Bytes l = (p : ℕ) → get_or l p 0 < 256

abbrev pub tab : ℕ → (ℕ → ℕ) → List ℕ
tab zero f = []
tab (suc n) f = f zero ∷ tab n (λ (k : ℕ). f (suc k))

-- the n bytes of l from the place o + k on, as one number
abbrev pub number : ℕ → List ℕ → ℕ → ℕ → ℕ
number zero l o k = 0
number (suc n) l o k = get_or l (o + k) 0 + 256 * number n l o (suc k)

abbrev pub word_at : List ℕ → ℕ → ℕ
word_at l i = number 8 l (i * 8) 0

unfoldable pub words : List ℕ → List ℕ
words l = tab (length l / 8) (word_at l)

abbrev pub split : ℕ → ℕ → List ℕ
split zero x = []
split (suc n) x = x % 256 ∷ split n (x / 256)

unfoldable pub bytes_of : List ℕ → List ℕ
bytes_of [] = []
bytes_of (w ∷ ws) = split 8 w ++ bytes_of ws

pub record Spans (l : List ℕ) (n : ℕ) : Type 0 where
  pub whole : length l % 8 ≡ 0
  pub enough : n * 8 ≤ length l

unfoldable pub all_zero : List ℕ → Bool
all_zero [] = true
all_zero (w ∷ ws) = eqb w 0 && all_zero ws
