-- Where a permission's row stands, from what `find` answers, and the bytes whose words are those of a state. Assumes nothing.
use mathlib.Core.Path.{◌≡◌, refl, sym, ap, ap₂, ◌∙◌, subst, subst⁻¹}
use mathlib.Core.Bool.{Bool, true, false, cond, ◌&&◌}
use mathlib.Core.List.{List}
use Prim.Native.Nat.{ℕ}
use native.Mathlib.Omega.{arith}
use lib.Dec.{T, ltb, eqb, ltb→lt, eqb→eq}
use lib.ListN.{length}
use borrow.Author.Tests.{lt-ltb, eq-eqb}
use Rattle.roles.proofs.Tests.{T_and}
use Rattle.words.specs.Words.{Bytes, words, bytes_of}
use Rattle.words.proofs.Laws.{bytes_of-words}
use Rattle.area.specs.Layout.{area_bytes}
use Rattle.area.specs.State.{Entry, State, place, words_of, area_of}
use Rattle.area.proofs.RowLaws.{Hit}
use Rattle.table.specs.Table.{rows_in, Sound, nth, has_row, found_for}
use Rattle.std.specs.Prelude.{Result, Ok, Err}

-- ---- what `find` answers

abbrev is_at : Result ℕ ℕ → Bool
is_at (Ok i) = true
is_at (Err i) = false

abbrev number_in : Result ℕ ℕ → ℕ
number_in (Ok i) = i
number_in (Err i) = i

at-is : (b : Bool) (k : ℕ) → is_at (cond b (Ok k) (Err k)) ≡ b
at-is true k = refl
at-is false k = refl

number_is : (b : Bool) (k : ℕ) → number_in (cond b (Ok k) (Err k)) ≡ k
number_is true k = refl
number_is false k = refl

module _ (p : ℕ) (es : List Entry) where
  found-is : is_at (found_for p es) ≡ has_row p es
  unfolding found_for
  found-is = at-is (has_row p es) (place p es)

  found_number : number_in (found_for p es) ≡ place p es
  unfolding found_for
  found_number = number_is (has_row p es) (place p es)

  has-hit : has_row p es ≡ true → Hit p es
  has-hit h =
      let q = (T_and (ltb (place p es) (length es)) (eqb (nth (place p es) es).permission p)).0 (subst⁻¹ T h tt) in
      record { inside = ltb→lt (place p es) (length es) q.0; own = eqb→eq (nth (place p es) es).permission p q.1 }

  hit-has : Hit p es → has_row p es ≡ true
  hit-has k = ap₂ (λ (a b : Bool). a && b) (lt-ltb (place p es) (length es) k.inside) (eq-eqb (nth (place p es) es).permission p k.own)

pub found_at : (l : List ℕ) (s : Sound l) (p i : ℕ) → found_for p (rows_in l) ≡ Ok i → Hit p (rows_in l) × (i ≡ place p (rows_in l))
found_at l s p i e =
    let es = rows_in l in (
      has-hit p es (sym (found-is p es) ∙ ap (λ (f : Result ℕ ℕ). is_at f) e),
      sym (ap (λ (f : Result ℕ ℕ). number_in f) e) ∙ found_number p es,
    )

pub found-vacant : (l : List ℕ) (s : Sound l) (p i : ℕ) → found_for p (rows_in l) ≡ Err i → ¬ (Hit p (rows_in l)) × (i ≡ place p (rows_in l))
found-vacant l s p i e =
    let es = rows_in l in (
      (λ k. subst T (sym (hit-has p es k) ∙ sym (found-is p es) ∙ ap (λ (f : Result ℕ ℕ). is_at f) e) tt),
      sym (ap (λ (f : Result ℕ ℕ). number_in f) e) ∙ found_number p es,
    )

-- ---- bytes

pub bytes-are : (l : List ℕ) (s : State) → Bytes l → length l ≡ area_bytes → words l ≡ words_of s → l ≡ area_of s
unfolding area_of
bytes-are l s b len e = sym (bytes_of-words l b (omega arith)) ∙ ap bytes_of e
