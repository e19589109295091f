-- What a test over a list gains by one more of it: the answer for the rest is the answer for all. Assumes nothing.
use mathlib.Core.Path.{◌≡◌, refl, sym, ap, ◌∙◌}
use mathlib.Core.Bool.{Bool, true, false, ◌||◌, or-true, or-false, or_assoc}
use mathlib.Core.List.{List, [], ◌∷◌, ◌++◌}
use Prim.Native.Nat.{ℕ, ◌+◌, ◌≤◌, ◌<◌}
use native.Mathlib.Numerals.{add-one}
use lib.ListN.{length, take, drop, get_or, drop_of_length-le}
use lib.Seq.{take-suc, drop-cons}
use Rattle.std.specs.List.{list_any}
use Rattle.meaning.specs.Lists.{any}

pub drop-next : (l : List ℕ) (i : ℕ) → i < length l → drop i l ≡ get_or l i 0 ∷ drop (i + 1) l
drop-next l i h = rw add-one (drop-cons l i 0 h)

module _ (p : ℕ → Bool) (l : List ℕ) (i : ℕ) (e : any p (drop i l) ≡ any p l) where
  any_next : i < length l → any p l ≡ (p (get_or l i 0) || any p (drop (i + 1) l))
  unfolding any
  any_next h = sym e ∙ ap (any p) (drop-next l i h)

  pub any-hit : i < length l → p (get_or l i 0) ≡ true → true ≡ any p l
  any-hit h q = sym (any_next h ∙ ap (λ (b : Bool). b || any p (drop (i + 1) l)) q)

  pub any-miss : i < length l → p (get_or l i 0) ≡ false → any p (drop (i + 1) l) ≡ any p l
  any-miss h q = sym (any_next h ∙ ap (λ (b : Bool). b || any p (drop (i + 1) l)) q)

  pub any-end : length l ≤ i → false ≡ any p l
  unfolding any
  any-end h = sym (ap (any p) (drop_of_length-le l h)) ∙ e

-- what a chain of iterators answers
pub any-is : (p : ℕ → Bool) (l : List ℕ) → list_any p l ≡ any p l
unfolding any
any-is p [] = refl
any-is p (x ∷ l) = ap (λ (b : Bool). p x || b) (any-is p l)

-- the same from the last to the first
any_append : (p : ℕ → Bool) (k l : List ℕ) → any p (k ++ l) ≡ (any p k || any p l)
unfolding any
any_append p [] l = refl
any_append p (x ∷ k) l = ap (λ (b : Bool). p x || b) (any_append p k l) ∙ sym (or_assoc (p x) (any p k) (any p l))

pub any-one : (p : ℕ → Bool) (l : List ℕ) (x : ℕ) → any p (l ++ x ∷ []) ≡ (any p l || p x)
unfolding any
any-one p l x = any_append p l (x ∷ []) ∙ ap (λ (b : Bool). any p l || b) (or-false (p x))

module _ (p : ℕ → Bool) (l : List ℕ) (i j : ℕ) (s : j ≡ i + 1) (h : i < length l) (e : any p (take j l) ≡ any p l) where
  any-before : any p l ≡ (any p (take i l) || (p (get_or l i 0) || false))
  unfolding any
  any-before = sym e ∙ ap (λ (n : ℕ). any p (take n l)) (s ∙ add-one i) ∙ ap (any p) (take-suc l i 0 h) ∙ any_append p (take i l) (get_or l i 0 ∷ [])

  pub any-hit-back : p (get_or l i 0) ≡ true → true ≡ any p l
  any-hit-back q = sym (any-before ∙ ap (λ (b : Bool). any p (take i l) || (b || false)) q ∙ or-true (any p (take i l)))

  pub any-miss-back : p (get_or l i 0) ≡ false → any p (take i l) ≡ any p l
  any-miss-back q = sym (any-before ∙ ap (λ (b : Bool). any p (take i l) || (b || false)) q ∙ or-false (any p (take i l)))

pub any-end-back : (p : ℕ → Bool) (l : List ℕ) (i : ℕ) → i ≡ 0 → any p (take i l) ≡ any p l → false ≡ any p l
unfolding any
any-end-back p l i z e = sym (ap (λ (n : ℕ). any p (take n l)) z) ∙ e
