-- A text at the start of a buffer, and texts one behind the other there. Assumes nothing.
use mathlib.Core.Path.{◌≡◌, ap, ◌∙◌}
use mathlib.Core.List.{List, ◌++◌}
use Prim.Native.Nat.{ℕ, ◌+◌, ◌≤◌}
use native.Mathlib.Nat.{zero-add}
use native.Mathlib.Omega.{arith}
use lib.ListN.{length, take, length-append}
use Rattle.io.specs.Counts.{IsPrefixLen}
use Rattle.io.proofs.Counting.{prefix_len_of_le}
use Rattle.text.specs.Write.{Wrote}
use Rattle.text.proofs.WriteLaws.{wrote-length, front-text}
use Rattle.files.specs.Messages.{Joined}

-- as many bytes as were counted are the text
pub at_front : (d t : List ℕ) {e : List ℕ} {p : ℕ} → length t ≤ length d → Wrote d 0 t e p → IsPrefixLen p e × (take p e ≡ t)
at_front d t {e} {p} h w =
    let long : p ≡ length t = w.next ∙ zero-add (length t) in
    (prefix_len_of_le p e (omega (arith, long, wrote-length w)), ap (λ (k : ℕ). take k e) long ∙ ap (take (length t)) w.bytes ∙ front-text t d h)

-- three texts from the start on
pub joined : (d a n b : List ℕ) {e : List ℕ} {p : ℕ} → length a + length n + length b ≤ length d → Wrote d 0 ((a ++ n) ++ b) e p → Joined a n b p e
joined d a n b h w =
    let front = at_front d ((a ++ n) ++ b) (omega (arith, length-append (a ++ n) b, length-append a n)) w in
    record { counts = front.0; text = front.1 }
