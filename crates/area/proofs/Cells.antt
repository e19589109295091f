-- Cells of equal width one after the other, zeros behind them: read back, and the zeros told from the rest. Assumes nothing.
use mathlib.Core.Path.{◌≡◌, refl, sym, ap, ap₂, ◌∙◌}
use mathlib.Core.List.{List, [], ◌∷◌, ◌++◌, append_assoc}
use Prim.Native.Nat.{ℕ, zero, suc, ◌+◌, ◌-◌, ◌*◌, ◌≤◌, ◌<◌}
use native.Mathlib.Nat.{zero-mul, suc-mul, le_of_suc-le-suc}
use native.Mathlib.Omega.{arith}
use lib.Dec.{T, eqb, eqb→eq}
use lib.ListN.{length, get_or, take, drop, replicate, length-append, length-replicate, length-take, length-drop, take-append-drop}
use lib.Seq.{take_at, drop_at, drop-append-add, take-append-add, take-add, drop-drop, length-take-le}
use Rattle.roles.proofs.Tests.{T_and}
use Rattle.words.specs.Words.{all_zero}
use Rattle.area.specs.State.{Entry, pad, each, entry_at, entries_from}
use Rattle.area.proofs.RowLaws.{none}

-- ---- zeros

pub all_zero-law : (l : List ℕ) → T (all_zero l) → l ≡ replicate (length l) 0
unfolding all_zero
all_zero-law [] h = refl
all_zero-law (x ∷ l) h =
    let p = (T_and (eqb x 0) (all_zero l)).0 h in
    ap₂ (λ (y : ℕ) (k : List ℕ). y ∷ k) (eqb→eq x 0 p.0) (all_zero-law l p.1)

pub zeros-all_zero : (n : ℕ) → T (all_zero (replicate n 0))
unfolding all_zero
zeros-all_zero zero = tt
zeros-all_zero (suc n) = zeros-all_zero n

pub take-zeros : (k n : ℕ) → k ≤ n → ◌≡◌ {A = List ℕ} (take k (replicate n 0)) (replicate k 0)
take-zeros zero n h = refl
take-zeros (suc k) zero h = absurd (let z : ⊥ = omega arith in z)
take-zeros (suc k) (suc n) h = ap {B = List ℕ} (λ l. 0 ∷ l) (take-zeros k n (le_of_suc-le-suc h))

pub length-pad : (n : ℕ) (l : List ℕ) → length (pad n l) ≡ n
unfolding pad
length-pad n l = length-take n (l ++ replicate n 0) ∙ omega (arith, length-append l (replicate n 0), length-replicate {A = ℕ} n 0)

-- l and as many zeros as there are places left
pub pad-short : (n : ℕ) (l : List ℕ) → length l ≤ n → pad n l ≡ l ++ replicate (n - length l) 0
unfolding pad
pad-short n l h =
    ap (λ (k : ℕ). take k (l ++ replicate n 0)) (let q : n ≡ length l + (n - length l) = omega arith in q)
    ∙ take-append-add l (replicate n 0) (n - length l)
    ∙ ap (λ (r : List ℕ). l ++ r) (take-zeros (n - length l) n (omega arith))

-- what stands in front of zeros, padded, is the whole
pub pad-take : (n c : ℕ) (l : List ℕ) → length l ≡ n → c ≤ n → T (all_zero (drop c l)) → pad n (take c l) ≡ l
pad-take n c l e h z =
    let len : length (take c l) ≡ c = length-take-le c l (omega arith) in
    let rest : replicate (n - length (take c l)) 0 ≡ drop c l =
    ap (λ (k : ℕ). replicate k 0) (let q : n - length (take c l) ≡ length (drop c l) = omega (arith, length-drop c l) in q) ∙ sym (all_zero-law (drop c l) z) in
    pad-short n (take c l) (omega arith) ∙ ap (λ (r : List ℕ). take c l ++ r) rest ∙ take-append-drop c l

module _ (n : ℕ) (l : List ℕ) (h : length l ≤ n) where
  pub pad-behind : T (all_zero (drop (length l) (pad n l)))
  pad-behind = rw (pad-short n l h, drop_at l (replicate (n - length l) 0) (length l) refl) (zeros-all_zero (n - length l))

  pub pad-front : take (length l) (pad n l) ≡ l
  pad-front = ap (take (length l)) (pad-short n l h) ∙ take_at l (replicate (n - length l) 0) (length l) refl

-- ---- cells

pub each_append : (f : Entry → List ℕ) (a b : List Entry) → each f (a ++ b) ≡ each f a ++ each f b
unfolding each
each_append f [] b = refl
each_append f (e ∷ a) b = ap (λ (l : List ℕ). f e ++ l) (each_append f a b) ∙ sym (append_assoc (f e) (each f a) (each f b))

module _ (f : Entry → List ℕ) (w : ℕ) (wide : (e : Entry) → length (f e) ≡ w) where
  pub length-each : (es : List Entry) → length (each f es) ≡ length es * w
  unfolding each
  length-each [] = sym (zero-mul w)
  length-each (e ∷ es) = length-append (f e) (each f es) ∙ omega (arith, wide e, length-each es, suc-mul (length es) w)

  -- the cell of number i is f of the entry of number i, whatever stands behind the cells
  pub each_read : (es : List Entry) (z : List ℕ) (i : ℕ) → i < length es → take w (drop (i * w) (each f es ++ z)) ≡ f (get_or es i none)
  unfolding each
  each_read [] z i h = absurd (let b : ⊥ = omega arith in b)
  each_read (e ∷ es) z zero h =
      ap (λ (k : ℕ). take w (drop k ((f e ++ each f es) ++ z))) (zero-mul w)
      ∙ ap (take w) (append_assoc (f e) (each f es) z)
      ∙ take_at (f e) (each f es ++ z) w (wide e)
  each_read (e ∷ es) z (suc i) h =
      ap (λ (k : ℕ). take w (drop k ((f e ++ each f es) ++ z))) (let q : suc i * w ≡ length (f e) + i * w = omega (arith, suc-mul i w, wide e) in q)
      ∙ ap (λ (l : List ℕ). take w (drop (length (f e) + i * w) l)) (append_assoc (f e) (each f es) z)
      ∙ ap (take w) (drop-append-add (f e) (each f es ++ z) (i * w))
      ∙ each_read es z i (le_of_suc-le-suc h)

  -- entries whose cells are those of l make up the front of l
  pub each-cells : (ws l : List ℕ) (i u : ℕ) → ((j : ℕ) → i ≤ j → j < i + u → f (entry_at ws j) ≡ take w (drop (j * w) l))
      → each f (entries_from ws i u) ≡ take (u * w) (drop (i * w) l)
  unfolding each entries_from
  each-cells ws l i zero h = ap (λ (k : ℕ). take k (drop (i * w) l)) (sym (zero-mul w))
  each-cells ws l i (suc u) h =
      ap₂ (λ (a b : List ℕ). a ++ b) (h i (omega arith) (omega arith))
      (each-cells ws l (suc i) u (λ j a b. h j (omega arith) (omega arith))
      ∙ ap (take (u * w)) (ap (λ (k : ℕ). drop k l) (let q : suc i * w ≡ i * w + w = omega (arith, suc-mul i w) in q) ∙ sym (drop-drop w (i * w) l)))
      ∙ sym (take-add w (u * w) (drop (i * w) l))
      ∙ ap (λ (k : ℕ). take k (drop (i * w) l)) (let q : w + u * w ≡ suc u * w = omega (arith, suc-mul u w) in q)

-- ---- entries

pub length-entries : (ws : List ℕ) (i n : ℕ) → length (entries_from ws i n) ≡ n
unfolding entries_from
length-entries ws i zero = refl
length-entries ws i (suc n) = ap suc (length-entries ws (suc i) n)

-- words with the entries of es hold es
pub entries-are : (ws : List ℕ) (es : List Entry) (i : ℕ) → ((k : ℕ) → k < length es → entry_at ws (i + k) ≡ get_or es k none) → entries_from ws i (length es) ≡ es
unfolding entries_from
entries-are ws [] i h = refl
entries-are ws (e ∷ es) i h =
    ap₂ (λ (a : Entry) (b : List Entry). a ∷ b)
    (ap (entry_at ws) (let q : i ≡ i + 0 = omega arith in q) ∙ h 0 (omega arith))
    (entries-are ws es (suc i) (λ k u. ap (entry_at ws) (let q : suc i + k ≡ i + suc k = omega arith in q) ∙ h (suc k) (omega arith)))
