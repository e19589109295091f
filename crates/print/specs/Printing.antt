-- What is proved of the calls that print.
--     OnGrounds d o gs     the answer is the number of the first ground that holds, else 0; every answer but 0 writes nothing, no text has more
--                          than 4,096 bytes, and the bytes behind it stay
--     text o               the bytes that a call wrote
--     rows_from l d i n    what n row calls write one behind the other, from the row of number i on; d has the buffer that each is lent
--     IsWritten a          a is 0, as it must be where no ground holds
--     Printing             each call on its grounds, on any bytes and numbers; the O call and the row calls one behind the other, into
--                          buffers of any bytes, write `printed`; the contracts allow one outcome
use Rattle.std.specs.Prelude.{◌≡◌, List, [], ◌∷◌, ◌++◌, ◌≢◌, ℕ, zero, suc, ◌≤◌, ◌<◌, T, length, drop}
use Rattle.refusals.specs.Refusals.{Ground, ground, Exactly}
pub use Rattle.written.specs.Grounds.{IsWritten, text}
use Rattle.area.specs.Layout.{good_bytes}
use Rattle.area.specs.State.{state_of}
use Rattle.print.specs.Printed.{printed}
use Rattle.print.specs.Print.{Print, print_open_of, print_row_of, Prints}
use Rattle.written.specs.declared.Written.{Written}

pub record OnGrounds (d : List ℕ) (o : Print) (gs : List Ground) : Type 0 where
  pub exactly : Exactly o.answer gs IsWritten
  pub refused : o.answer ≢ 0 → (o.bytes ≡ 0) × (o.out ≡ d)
  pub short : o.bytes ≤ 4096
  pub behind : drop o.bytes o.out ≡ drop o.bytes d

unfoldable pub rows_from : List ℕ → (ℕ → List ℕ) → ℕ → ℕ → List ℕ
rows_from l d i zero = []
rows_from l d i (suc n) = text (print_row_of l i (d i)) ++ rows_from l d (suc i) n

pub record Printing : Type 0 where
  pub open-answers : (l d : List ℕ) → OnGrounds d (print_open_of l d) (ground 1 (¬ (T (good_bytes l))) ∷ ground 16 (length d < 4096) ∷ [])
  pub row-answers : (l : List ℕ) (i : ℕ) (d : List ℕ)
      → OnGrounds d (print_row_of l i d) (ground 1 (¬ (T (good_bytes l))) ∷ ground 18 (length (state_of l).rows ≤ i) ∷ ground 16 (length d < 4096) ∷ [])
  pub whole : (l : List ℕ) → T (good_bytes l) → (o : List ℕ) → 4096 ≤ length o → (d : ℕ → List ℕ) → ((i : ℕ) → 4096 ≤ length (d i))
      → text (print_open_of l o) ++ rows_from l d 0 (length (state_of l).rows) ≡ printed (state_of l)
  pub one-outcome : (o : Print) (r s : Written) (e f : List ℕ) → Prints o r e → Prints o s f → (r ≡ s) × (e ≡ f)
