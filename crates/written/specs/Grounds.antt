-- What is proved of every call that writes a text.
--     IsWritten a          a is 0, as it must be where no ground holds
--     OnGrounds m d o gs   the answer is the number of the first ground that holds, else 0; every answer but 0 writes nothing, no text has more
--                          than m bytes, and the bytes behind it stay
--     text o               the bytes that a call wrote
--     OneText, OneResult   the contract allows one outcome, as C gets it and before
use Rattle.std.specs.Prelude.{◌≡◌, List, ◌≢◌, ℕ, ◌≤◌, Result, take, drop}
use Rattle.refusals.specs.Refusals.{Ground, Exactly}
use Rattle.written.specs.Print.{Print, Prints}
use Rattle.written.specs.Result.{written_of}
use Rattle.written.specs.declared.Refusal.{Refusal}
use Rattle.written.specs.declared.Written.{Written}

abbrev pub IsWritten : ℕ → Type 0
IsWritten a = a ≡ 0

pub record OnGrounds (m : ℕ) (d : List ℕ) (o : Print) (gs : List Ground) : Type 0 where
  pub exactly : Exactly o.answer gs IsWritten
  pub refused : o.answer ≢ 0 → (o.bytes ≡ 0) × (o.out ≡ d)
  pub short : o.bytes ≤ m
  pub behind : drop o.bytes o.out ≡ drop o.bytes d

abbrev pub text : Print → List ℕ
text o = take o.bytes o.out

abbrev pub OneText : Type 0
OneText = (o : Print) (r s : Written) (e f : List ℕ) → Prints o r e → Prints o s f → (r ≡ s) × (e ≡ f)

abbrev pub OneResult : Type 0
OneResult = (o : Print) (r s : Result ℕ Refusal) (e f : List ℕ) → Prints o (written_of r) e → Prints o (written_of s) f → (r ≡ s) × (e ≡ f)
