-- What a call returns to C.
--     Returns o n l    n is the answer's number, and l the bytes of the area afterwards
--     decided_of d     the two numbers that decide returns
use Rattle.std.specs.Prelude.{◌≡◌, List, ℕ}
use Rattle.meaning.specs.Rows as meaning
use Rattle.calls.specs.Calls.{Out}
use Rattle.wickthrush.specs.declared.Decided.{Decided}

pub record Returns (o : Out) (n : ℕ) (l : List ℕ) : Type 0 where
  pub answer : n ≡ o.answer
  pub area : l ≡ o.area

abbrev pub decided_of : Decided → meaning.Decided
decided_of d = record { answer = d.answer; role = d.role }
