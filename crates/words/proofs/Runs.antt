-- Runs of words: written one by one, and tested one by one. Assumes nothing.
use mathlib.Core.Path.{◌≡◌, refl, sym, ap, ap₂, ◌∙◌}
use mathlib.Core.Bool.{Bool, true, false, ◌&&◌, and-true}
use mathlib.Core.List.{List, [], ◌∷◌, ◌++◌}
use Prim.Native.Nat.{ℕ, zero, suc, ◌+◌, ◌-◌, ◌≤◌, ◌<◌}
use native.Mathlib.Numerals.{add-one}
use native.Mathlib.Nat.{add-zero, not-suc-le-zero, le_of_suc-le-suc}
use native.Mathlib.Decide.{ℕ_discrete}
use native.Mathlib.Omega.{arith}
use borrow.Author.Tests.{eq-eqb, ne_eqb}
use lib.Bits.{bit_or, or_add_and, and_le_l, and_le_r}
use lib.Dec.{eqb}
use lib.ListN.{length, get_or, set, take, drop, length-set, length-take, length-drop}
use lib.Seq.{sets, set_comm, get_or-set_same, get_or-set_other, take-suc, take-add, drop-cons, get_or-take, get_or-drop, ext_get_or}
use Rattle.words.specs.Words.{words, Spans, all_zero}
use Rattle.words.proofs.Laws.{length-words}

-- bytes of the same length span the same words
pub spans-again : {l l' : List ℕ} {n m : ℕ} → Spans l n → length l' ≡ length l → m ≤ n → Spans l' m
spans-again p e h = let w = p.whole in let b = p.enough in record { whole = rw e w; enough = omega arith }

-- the words that bytes span are there
pub spans-words : {l : List ℕ} {n : ℕ} → Spans l n → n ≤ length (words l)
spans-words {l} p = let b = p.enough in omega (arith, length-words l)

-- ---- what a run of stores leaves

pub get_d-sets-below : (l : List ℕ) (i : ℕ) (vs : List ℕ) (k : ℕ) → k < i → get_or (sets l i vs) k 0 ≡ get_or l k 0
get_d-sets-below l i [] k h = refl
get_d-sets-below l i (v ∷ vs) k h = get_d-sets-below (set l i v) (suc i) vs k (omega arith) ∙ get_or-set_other l i k v 0 (λ e. omega arith)

pub get_d-sets-behind : (l : List ℕ) (i : ℕ) (vs : List ℕ) (k : ℕ) → i + length vs ≤ k → get_or (sets l i vs) k 0 ≡ get_or l k 0
get_d-sets-behind l i [] k h = refl
get_d-sets-behind l i (v ∷ vs) k h = get_d-sets-behind (set l i v) (suc i) vs k (omega arith) ∙ get_or-set_other l i k v 0 (λ e. omega arith)

pub get_d-sets-in : (l : List ℕ) (i : ℕ) (vs : List ℕ) (k : ℕ) → i + length vs ≤ length l → k < length vs → get_or (sets l i vs) (i + k) 0 ≡ get_or vs k 0
get_d-sets-in l i [] k b h = absurd (not-suc-le-zero h)
get_d-sets-in l i (v ∷ vs) zero b h =
    ap (λ (j : ℕ). get_or (sets (set l i v) (suc i) vs) j 0) (add-zero i)
    ∙ get_d-sets-below (set l i v) (suc i) vs i (omega arith)
    ∙ get_or-set_same l i v 0 (omega arith)
get_d-sets-in l i (v ∷ vs) (suc k) b h =
    ap (λ (j : ℕ). get_or (sets (set l i v) (suc i) vs) j 0) (let e : i + suc k ≡ suc i + k = omega arith in e)
    ∙ get_d-sets-in (set l i v) (suc i) vs k (omega (arith, length-set l i v)) (le_of_suc-le-suc h)

-- one more at the end
pub sets_end : (l : List ℕ) (i : ℕ) (vs : List ℕ) (v : ℕ) → set (sets l i vs) (i + length vs) v ≡ sets l i (vs ++ v ∷ [])
sets_end l i [] v = ap (λ (n : ℕ). set l n v) (add-zero i)
sets_end l i (w ∷ vs) v =
    ap (λ (n : ℕ). set (sets (set l i w) (suc i) vs) n v) (let e : i + suc (length vs) ≡ suc i + length vs = omega arith in e)
    ∙ sets_end (set l i w) (suc i) vs v

-- one more in front
pub sets-front : (l : List ℕ) (i : ℕ) (vs : List ℕ) (k v : ℕ) → k < i → set (sets l i vs) k v ≡ sets (set l k v) i vs
sets-front l i [] k v h = refl
sets-front l i (w ∷ vs) k v h =
    sets-front (set l i w) (suc i) vs k v (omega arith)
    ∙ ap (λ (m : List ℕ). sets m (suc i) vs) (set_comm l i k w v (λ e. omega arith))

-- ---- the words from a place on

module _ (l : List ℕ) (at n k : ℕ) (h : k < n) (b : at + n ≤ length l) where
  pub run-word : get_or (take n (drop at l)) k 0 ≡ get_or l (at + k) 0
  run-word = get_or-take n (drop at l) k 0 h ∙ get_or-drop at l k 0

  pub run_long : k < length (take n (drop at l))
  run_long = omega (arith, length-take n (drop at l), length-drop at l)

  -- the last but k are the word k and the last but k + 1
  pub run_drop : drop k (take n (drop at l)) ≡ get_or l (at + k) 0 ∷ drop (k + 1) (take n (drop at l))
  run_drop = rw add-one (drop-cons (take n (drop at l)) k 0 run_long) ∙ ap (λ (x : ℕ). x ∷ drop (k + 1) (take n (drop at l))) run-word

pub run_take : (l : List ℕ) (at k : ℕ) → at + k < length l → take (k + 1) (drop at l) ≡ take k (drop at l) ++ get_or l (at + k) 0 ∷ []
run_take l at k b =
    let long : k < length (drop at l) = omega (arith, length-drop at l) in
    rw add-one (take-suc (drop at l) k 0 long) ∙ ap (λ (x : ℕ). take k (drop at l) ++ x ∷ []) (get_or-drop at l k 0)

pub length_run : (l : List ℕ) (at k : ℕ) → at + k ≤ length l → length (take k (drop at l)) ≡ k
length_run l at k b = length-take k (drop at l) ∙ omega (arith, length-drop at l)

-- all but the first k of the n words from number `at` on
pub drop-run : (n at k : ℕ) (l : List ℕ) → k ≤ n → drop k (take n (drop at l)) ≡ take (n - k) (drop (at + k) l)
drop-run n at k l h =
    ext_get_or 0 (drop k (take n (drop at l))) (take (n - k) (drop (at + k) l))
    (length-drop k (take n (drop at l))
    ∙ omega (arith, length-take n (drop at l), length-drop at l, length-take (n - k) (drop (at + k) l), length-drop (at + k) l))
    (λ i b.
    let c : i < n - k = omega (arith, length-drop k (take n (drop at l)), length-take n (drop at l)) in
    let e : at + (k + i) ≡ at + k + i = omega arith in
    get_or-drop k (take n (drop at l)) i 0
    ∙ get_or-take n (drop at l) (k + i) 0 (omega arith)
    ∙ get_or-drop at l (k + i) 0
    ∙ ap (λ (j : ℕ). get_or l j 0) e
    ∙ sym (get_or-take (n - k) (drop (at + k) l) i 0 c ∙ get_or-drop (at + k) l i 0))

-- ---- one turn of a loop

module _ (l : List ℕ) (at k : ℕ) where
  pub down-more : (by : ℕ) (now : List ℕ) → at + by + k < length l → now ≡ sets l at (take k (drop (at + by) l))
      → set now (at + k) (get_or now (at + by + k) 0) ≡ sets l at (take (k + 1) (drop (at + by) l))
  down-more by now b e =
      let vs = take k (drop (at + by) l) in
      let n : length vs ≡ k = length_run l (at + by) k (omega arith) in
      let v : get_or now (at + by + k) 0 ≡ get_or l (at + by + k) 0 =
      ap (λ (m : List ℕ). get_or m (at + by + k) 0) e ∙ get_d-sets-behind l at vs (at + by + k) (omega arith) in
      ap₂ (λ (m : List ℕ) (x : ℕ). set m (at + k) x) e v
      ∙ ap (λ (j : ℕ). set (sets l at vs) (at + j) (get_or l (at + by + k) 0)) (sym n)
      ∙ sets_end l at vs (get_or l (at + by + k) 0)
      ∙ ap (sets l at) (sym (run_take l (at + by) k b))

  pub up_more : (by n : ℕ) (now : List ℕ) → k < n → at + n ≤ length l → now ≡ sets l (at + by + (k + 1)) (drop (k + 1) (take n (drop at l)))
      → set now (at + by + k) (get_or now (at + k) 0) ≡ sets l (at + by + k) (drop k (take n (drop at l)))
  up_more by n now h b e =
      let vs = drop (k + 1) (take n (drop at l)) in
      let q : at + by + (k + 1) ≡ suc (at + by + k) = omega arith in
      let v : get_or now (at + k) 0 ≡ get_or l (at + k) 0 =
      ap (λ (m : List ℕ). get_or m (at + k) 0) e ∙ get_d-sets-below l (at + by + (k + 1)) vs (at + k) (omega arith) in
      ap₂ (λ (m : List ℕ) (x : ℕ). set m (at + by + k) x) e v
      ∙ sets-front l (at + by + (k + 1)) vs (at + by + k) (get_or l (at + k) 0) (omega arith)
      ∙ ap (λ (j : ℕ). sets (set l (at + by + k) (get_or l (at + k) 0)) j vs) q
      ∙ ap (sets l (at + by + k)) (sym (run_drop l at n k h b))

-- ---- zeros

or-zero : (a b : ℕ) → eqb (bit_or a b) 0 ≡ (eqb a 0 && eqb b 0)
or-zero a b = go (ℕ_discrete a 0) (ℕ_discrete b 0)
  where
    go : Dec (a ≡ 0) → Dec (b ≡ 0) → eqb (bit_or a b) 0 ≡ (eqb a 0 && eqb b 0)
    go (yes p) (yes q) = eq-eqb (bit_or a b) 0 (omega (arith, or_add_and a b)) ∙ sym (rw (eq-eqb a 0 p, eq-eqb b 0 q))
    go (yes p) (no q) = ne_eqb (bit_or a b) 0 (λ e. q (omega (arith, or_add_and a b, and_le_l a b))) ∙ sym (rw (eq-eqb a 0 p, ne_eqb b 0 q))
    go (no p) q = ne_eqb (bit_or a b) 0 (λ e. p (omega (arith, or_add_and a b, and_le_r a b))) ∙ sym (rw (ne_eqb a 0 p))

all_zero-append : (l m : List ℕ) → all_zero (l ++ m) ≡ (all_zero l && all_zero m)
unfolding all_zero
all_zero-append [] m = refl
all_zero-append (x ∷ l) m = go (eqb x 0) (all_zero-append l m)
  where
    go : (b : Bool) → all_zero (l ++ m) ≡ (all_zero l && all_zero m) → (b && all_zero (l ++ m)) ≡ ((b && all_zero l) && all_zero m)
    go true e = e
    go false e = refl

-- a run of zeros is two, one behind the other
pub all_zero-split : (m n : ℕ) (l : List ℕ) → all_zero (take (m + n) l) ≡ (all_zero (take m l) && all_zero (take n (drop m l)))
all_zero-split m n l = ap all_zero (take-add m n l) ∙ all_zero-append (take m l) (take n (drop m l))

all_zero-one : (w : ℕ) → all_zero (w ∷ []) ≡ eqb w 0
unfolding all_zero
all_zero-one w = and-true (eqb w 0)

-- one word more is joined to those tested
pub all_zero-more : (l : List ℕ) (at k all : ℕ) → at + k < length l → eqb all 0 ≡ all_zero (take k (drop at l))
    → eqb (bit_or all (get_or l (at + k) 0)) 0 ≡ all_zero (take (k + 1) (drop at l))
all_zero-more l at k all b e =
    or-zero all (get_or l (at + k) 0)
    ∙ ap (λ (t : Bool). t && eqb (get_or l (at + k) 0) 0) e
    ∙ ap (λ (t : Bool). all_zero (take k (drop at l)) && t) (sym (all_zero-one (get_or l (at + k) 0)))
    ∙ sym (ap all_zero (run_take l at k b) ∙ all_zero-append (take k (drop at l)) (get_or l (at + k) 0 ∷ []))
