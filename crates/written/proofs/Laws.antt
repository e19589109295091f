-- A text from the first byte of a buffer on, and a call that writes it on its grounds. Assumes nothing.
use mathlib.Core.Path.{◌≡◌, refl, sym, ap, ◌∙◌}
use mathlib.Core.Bool.{cond}
use mathlib.Core.List.{List}
use mathlib.Core.Logic.{◌≢◌}
use Prim.Native.Nat.{ℕ, ◌≤◌, ◌<◌}
use native.Mathlib.Nat.{zero-add}
use native.Mathlib.Omega.{arith}
use lib.Dec.{T, eqb}
use lib.ListN.{length, drop}
use Rattle.std.proofs.Common.{Result, Ok, Err}
use Rattle.refusals.specs.Refusals.{Refusal, refuse, Ground}
use Rattle.refusals.proofs.Laws.{Tests, lacks, distinct, refuse-has, refuse-exactly}
use Rattle.text.specs.Write.{Wrote}
use Rattle.text.proofs.WriteLaws.{front-text, front-behind}
use Rattle.written.specs.Print.{Print, kept, shown, Prints}
use Rattle.written.specs.Grounds.{IsWritten, OnGrounds, text, OneText, OneResult}
use Rattle.written.specs.Result.{number_of, written_of}
use Rattle.written.specs.declared.Refusal.{Refusal as Unwritten}
use Rattle.written.specs.declared.Refusal.TheVariants.{BadArea, NoPermission, UnknownRole, ShortBuffer, BadNameTable, NoRow}
use Rattle.written.specs.declared.Written.{Written}

-- ---- a text in front

module _ (t d : List ℕ) (room : length t ≤ length d) where
  pub shown-text : text (shown t d) ≡ t
  shown-text = front-text t d room

-- ---- on its grounds

-- no more than m bytes are written, and those behind stay
abbrev pub Within : ℕ → List ℕ → Print → Type 0
Within m d o = (o.bytes ≤ m) × (drop o.bytes o.out ≡ drop o.bytes d)

module _ (m : ℕ) (d : List ℕ) where
  pub kept-within : (a : ℕ) → Within m d (kept a d)
  kept-within a = (omega arith, refl)

  pub shown-within : (t : List ℕ) → length t ≤ m → length t ≤ length d → Within m d (shown t d)
  shown-within t h k = (h, front-behind t d k)

  pub on-grounds : (o : Print) (rs : List Refusal) (gs : List Ground) → o.answer ≡ 0 → Tests rs gs → T (distinct rs) → T (lacks o.answer rs)
      → Within m d (refuse rs (λ a. kept a d) o) → OnGrounds m d (refuse rs (λ a. kept a d) o) gs
  on-grounds o rs gs z t u k w = record {
    exactly = refuse-exactly (λ a. kept a d) o (λ x. x.answer) (λ a. refl) IsWritten rs gs t u k z;
    refused = refuse-has (λ a. kept a d) o (λ x. x.answer ≢ 0 → (x.bytes ≡ 0) × (x.out ≡ d)) rs (λ a n. (refl, refl)) (λ n. absurd (n z));
    short = w.0;
    behind = w.1;
  }

-- ---- what the code gives

module _ {o : Print} {d : List ℕ} where
  pub prints-kept : (e : Unwritten) → o ≡ kept (number_of e) d → Prints o (written_of (Err e)) d
  prints-kept e q = record { answer = sym (ap (λ (x : Print). x.answer) q); bytes = sym (ap (λ (x : Print). x.bytes) q); out = sym (ap (λ (x : Print). x.out) q) }

  pub prints-shown : (t : List ℕ) {e : List ℕ} {n : ℕ} → o ≡ shown t d → Wrote d 0 t e n → Prints o (written_of (Ok n)) e
  prints-shown t q w = record {
    answer = sym (ap (λ (x : Print). x.answer) q);
    bytes = w.next ∙ zero-add (length t) ∙ sym (ap (λ (x : Print). x.bytes) q);
    out = w.bytes ∙ sym (ap (λ (x : Print). x.out) q);
  }

-- the struct that C gets is told as the result that it was made of
pub prints-c : {o : Print} (r : Result ℕ Unwritten) {w : Written} {e : List ℕ} → w ≡ written_of r → Prints o (written_of r) e → Prints o w e
prints-c r q s = rw q s

pub one-text : OneText
one-text o r s e f p q = (λ i. record { answer = (p.answer ∙ sym q.answer) i; bytes = (p.bytes ∙ sym q.bytes) i }, p.out ∙ sym q.out)

-- ---- what C gets says what the code gave

abbrev refusal_of : ℕ → Unwritten
refusal_of n = cond (eqb n 1) BadArea (cond (eqb n 3) NoPermission (cond (eqb n 4) UnknownRole (cond (eqb n 16) ShortBuffer (cond (eqb n 17) BadNameTable NoRow))))

number-refusal : (e : Unwritten) → refusal_of (number_of e) ≡ e
number-refusal BadArea = refl
number-refusal NoPermission = refl
number-refusal UnknownRole = refl
number-refusal ShortBuffer = refl
number-refusal BadNameTable = refl
number-refusal NoRow = refl

number-some : (e : Unwritten) → 0 < number_of e
number-some BadArea = omega arith
number-some NoPermission = omega arith
number-some UnknownRole = omega arith
number-some ShortBuffer = omega arith
number-some BadNameTable = omega arith
number-some NoRow = omega arith

one-written : (r s : Result ℕ Unwritten) → written_of r ≡ written_of s → r ≡ s
one-written (Ok m) (Ok n) q = ap (λ (w : Written). Ok w.bytes) q
one-written (Ok m) (Err f) q = absurd (omega (arith, number-some f, ap (λ (w : Written). w.answer) q))
one-written (Err e) (Ok n) q = absurd (omega (arith, number-some e, ap (λ (w : Written). w.answer) q))
one-written (Err e) (Err f) q = ap Err (sym (number-refusal e) ∙ ap (λ (w : Written). refusal_of w.answer) q ∙ number-refusal f)

pub one-result : OneResult
one-result o r s e f p q = let t = one-text o (written_of r) (written_of s) e f p q in (one-written r s t.0, t.1)
