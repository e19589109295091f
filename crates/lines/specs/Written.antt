-- What is written for lines, each with its number and the answer, and after an S line the rows; and the area that they leave.
--     shown l q           the rows that follow the answer to q
--     rows_text           rows, one after the other
--     next_number k       the number of the next line; numbers have 64 bits
--     line_written k l q  what is written for line k, where it says q
--     written k l hs      what is written for the lines hs from number k on, on the area l
--     area_after l hs     the area after the lines hs, on the area l
--     lines_write l bs    what is written for the input bs, on the area l
--     lines_leave l bs    the area after the input bs, on the area l
--     program_writes bs   what the line program writes for the input bs: its area starts as zeros
use Rattle.std.specs.Prelude.{ℕ, ◌+◌, ◌%◌, ◌^◌, List, [], ◌∷◌, ◌++◌, replicate}
use Rattle.area.specs.Layout.{area_bytes}
use Rattle.area.specs.State.{Entry}
use Rattle.walker.specs.Walk.{walked}
use Rattle.requests.specs.declared.Request.{Request}
use Rattle.requests.specs.declared.Request.TheVariants.{Open, Told, Decide, Forget, Show, Unreadable}
use Rattle.split.specs.Split.{Held, lines_of, said}
use Rattle.answers.specs.Answers.{answer_of}
use Rattle.answers.specs.Texts.{answer_text, row_text}

-- ---- the rows that follow an answer

unfoldable pub shown : List ℕ → Request → List Entry
shown l (Open n g) = []
shown l (Told e) = []
shown l (Decide p s) = []
shown l (Forget p) = []
shown l Show = walked l
shown l Unreadable = []

unfoldable pub rows_text : List Entry → List ℕ
rows_text [] = []
rows_text (e ∷ es) = row_text e ++ rows_text es

-- ---- all that is written, and the area behind it

abbrev pub next_number : ℕ → ℕ
next_number k = (k + 1) % 2 ^ 64

unfoldable pub line_written : ℕ → List ℕ → Request → List ℕ
line_written k l q = answer_text k (answer_of l q).answer ++ rows_text (shown l q)

unfoldable pub written : ℕ → List ℕ → List Held → List ℕ
written k l [] = []
written k l (h ∷ hs) = line_written k l (said h) ++ written (next_number k) (answer_of l (said h)).area hs

unfoldable pub area_after : List ℕ → List Held → List ℕ
area_after l [] = l
area_after l (h ∷ hs) = area_after (answer_of l (said h)).area hs

unfoldable pub lines_write : List ℕ → List ℕ → List ℕ
lines_write l bs = written 1 l (lines_of bs)

unfoldable pub lines_leave : List ℕ → List ℕ → List ℕ
lines_leave l bs = area_after l (lines_of bs)

unfoldable pub program_writes : List ℕ → List ℕ
program_writes bs = lines_write (replicate area_bytes 0) bs
