-- What a call that writes a text gives: its answer, and the lent buffer after it.
--     Print                an answer, how many bytes were written, and the buffer afterwards
--     kept a d             the answer a, and the buffer as it was
--     shown t d            the text t, from the first byte of the buffer on; the bytes behind it stay
--     Prints o r e         the result r and the buffer e are those of o
use Rattle.std.specs.Prelude.{◌≡◌, List, ℕ, length}
use Rattle.std.proofs.lemmas.List.Edits.{sets}
use Rattle.written.specs.declared.Written.{Written}

pub record Print : Type 0 where
  pub answer : ℕ
  pub bytes : ℕ
  pub out : List ℕ

abbrev pub kept : ℕ → List ℕ → Print
kept a d = record { answer = a; bytes = 0; out = d }

abbrev pub shown : List ℕ → List ℕ → Print
shown t d = record { answer = 0; bytes = length t; out = sets d 0 t }

pub record Prints (o : Print) (r : Written) (e : List ℕ) : Type 0 where
  pub answer : r.answer ≡ o.answer
  pub bytes : r.bytes ≡ o.bytes
  pub out : e ≡ o.out
