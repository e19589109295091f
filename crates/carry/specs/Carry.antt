-- A good area printed and fed to another comes out the same; so every good area is reached by some past, and demand 3 speaks of all of them.
--     zeros_from k n    the answer 0 to each of n lines, from line k on
--     Carried l m       all lines that are printed of l are answered 0 from the area m on, and leave l
--     Carry             so it is for every good area l and any area m of the right length
--     Reached           every good area is reached by some past
--     HeldPossible l p  the holder sets of p that the rows of an area leave possible
--     Known             they are those that are possible after any past that reaches the area
--     EveryArea         demand 3 of any two good areas: equal exactly when they have the same role count, policy state and possible holder sets
use Rattle.std.specs.Prelude.{◌≡◌, List, [], ◌++◌, ◌↔◌, ℕ, zero, suc, T, length}
use Rattle.words.specs.Words.{Bytes}
use Rattle.meaning.specs.Rows.{Leaves, bare}
use Rattle.area.specs.Layout.{area_bytes, good_bytes}
use Rattle.area.specs.State.{row_for, state_of}
use Rattle.calls.specs.Calls.{valid}
use Rattle.calls.specs.Histories.{Past, area, PossibleAfter}
use Rattle.split.specs.Split.{lines_of}
use Rattle.answers.specs.Texts.{answer_text}
use Rattle.lines.specs.Written.{next_number, lines_write, lines_leave}
use Rattle.print.specs.Printed.{printed}

unfoldable pub zeros_from : ℕ → ℕ → List ℕ
zeros_from k zero = []
zeros_from k (suc n) = answer_text k (bare 0) ++ zeros_from (next_number k) n

pub record Carried (l m : List ℕ) : Type 0 where
  pub answers : lines_write m (printed (state_of l)) ≡ zeros_from 1 (length (lines_of (printed (state_of l))))
  pub leaves : lines_leave m (printed (state_of l)) ≡ l

abbrev pub Carry : Type 0
Carry = (l m : List ℕ) → Bytes l → T (good_bytes l) → length m ≡ area_bytes → Carried l m

abbrev pub Reached : Type 0
Reached = (l : List ℕ) → Bytes l → T (good_bytes l) → (h : Past) × (area h ≡ l)

abbrev pub HeldPossible : List ℕ → ℕ → ℕ → Type 0
HeldPossible l p = Leaves (state_of l).roles (row_for p (state_of l).rows)

abbrev pub Known : Type 0
Known = (h : Past) (p x : ℕ) → HeldPossible (area h) p x ↔ PossibleAfter h p x

abbrev pub EveryArea : Type 0
EveryArea = (l k : List ℕ) → Bytes l → Bytes k → T (good_bytes l) → T (good_bytes k)
    → (l ≡ k) ↔ (((state_of l).roles ≡ (state_of k).roles) × ((state_of l).policy ≡ (state_of k).policy) × ((p : ℕ) → T (valid p) → (x : ℕ) → HeldPossible l p x ↔ HeldPossible k p x))
