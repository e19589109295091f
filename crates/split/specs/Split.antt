-- Input bytes as lines: a line ends with LF and has at most 216 bytes before it, and a last line without LF counts if it
-- is not empty.
--     Held                 a line, as it is kept: its bytes, or that there are too many
--     none, is_none        no byte yet
--     held_then, held_all  one byte more; bytes more
--     lines_from h bs      the lines of the input bs, where h is what the first has already
--     lines_of             the lines of an input
--     ended, left          the lines that end within bytes, and what is held of the next behind them
--     lines_cut h ps       the lines of an input that comes in the pieces ps
--     whole ps             the pieces, one behind the other
--     said h               the request that a line says: one that is too long is unreadable
--     before_lf bs         how many bytes stand before the first LF
--     held_in              the line that the code's splitter keeps
use Rattle.std.specs.Prelude.{Bool, true, false, cond, List, [], ◌∷◌, ◌++◌, ℕ, eqb, ltb, leb, length, take}
use Rattle.text.specs.Ascii.{lf}
pub use Rattle.text.specs.Lines.{before_lf}
use Rattle.requests.specs.declared.Request.{Request}
use Rattle.requests.specs.declared.Request.TheVariants.{Unreadable}
use Rattle.requests.specs.Request.{most_bytes, request_of}
use Rattle.split.specs.declared.Splitter.{Splitter}

pub data Held : Type 0 where
  short : List ℕ → Held
  long : Held

abbrev pub none : Held
none = short []

unfoldable pub is_none : Held → Bool
is_none (short []) = true
is_none (short (b ∷ l)) = false
is_none long = false

unfoldable pub held_then : Held → ℕ → Held
held_then (short l) b = cond (ltb (length l) most_bytes) (short (l ++ b ∷ [])) long
held_then long b = long

unfoldable pub held_all : Held → List ℕ → Held
held_all h [] = h
held_all h (b ∷ bs) = held_all (held_then h b) bs

unfoldable pub lines_from : Held → List ℕ → List Held
lines_from h [] = cond (is_none h) [] (h ∷ [])
lines_from h (b ∷ bs) = cond (eqb b lf) (h ∷ lines_from none bs) (lines_from (held_then h b) bs)

abbrev pub lines_of : List ℕ → List Held
lines_of bs = lines_from none bs

unfoldable pub ended : Held → List ℕ → List Held
ended h [] = []
ended h (b ∷ bs) = cond (eqb b lf) (h ∷ ended none bs) (ended (held_then h b) bs)

unfoldable pub left : Held → List ℕ → Held
left h [] = h
left h (b ∷ bs) = cond (eqb b lf) (left none bs) (left (held_then h b) bs)

unfoldable pub lines_cut : Held → List (List ℕ) → List Held
lines_cut h [] = lines_from h []
lines_cut h (p ∷ ps) = ended h p ++ lines_cut (left h p) ps

unfoldable pub whole : List (List ℕ) → List ℕ
whole [] = []
whole (p ∷ ps) = p ++ whole ps

unfoldable pub said : Held → Request
said (short l) = request_of l
said long = Unreadable

-- a length above `most_bytes` says that the line is too long
abbrev pub held_in : Splitter → Held
held_in s = cond (leb s.len most_bytes) (short (take s.len s.bytes)) long
