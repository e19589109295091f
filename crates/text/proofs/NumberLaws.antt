-- Numbers as text: digit by digit; what was printed reads back, and nothing else reads. Assumes nothing.
use mathlib.Core.Path.{◌≡◌, refl, sym, ap, ◌∙◌, subst}
use mathlib.Core.Bool.{Bool, true, false, cond, ◌&&◌, false≢true}
use mathlib.Core.List.{List, [], ◌∷◌, ◌++◌, append_assoc}
use mathlib.Core.Logic.{by_cases}
use Prim.Native.Nat.{ℕ, zero, suc, ◌+◌, ◌*◌, ◌/◌, ◌%◌, ◌≤◌, ◌<◌}
use native.Mathlib.Decide.{dec_lt}
use native.Mathlib.Omega.{arith}
use borrow.Author.Tests.{lt-ltb, le-ltb, le-leb, lt-leb, ne_eqb, ltb-false, leb-true, eqb-true, eqb-false}
use lib.Dec.{ltb, leb, eqb}
use lib.ListN.{drop}
use Rattle.text.specs.Ascii.{digit_zero, digit_nine}
use Rattle.text.specs.Number.{digits, number_text, found, bad, is_digit, digit_next, next_is, grown, read_more, read_number}

-- ---- the text

digits-enough : (j k n : ℕ) → n ≤ j → n ≤ k → digits j n ≡ digits k n
unfolding digits
digits-enough zero zero n h l = refl
digits-enough zero (suc k) n h l = rw (lt-ltb n 10 (omega arith)) refl
digits-enough (suc j) zero n h l = rw (lt-ltb n 10 (omega arith)) refl
digits-enough (suc j) (suc k) n h l = go (ltb n 10) refl (λ m. digits-enough j k (n / 10) (omega arith) (omega arith))
  where
    go : (b : Bool) → ltb n 10 ≡ b → (10 ≤ n → digits j (n / 10) ≡ digits k (n / 10))
        → cond b ((digit_zero + n) ∷ []) (digits j (n / 10) ++ ((digit_zero + n % 10) ∷ [])) ≡ cond b ((digit_zero + n) ∷ []) (digits k (n / 10) ++ ((digit_zero + n % 10) ∷ []))
    go true e i = refl
    go false e i = rw (i (ltb-false n 10 e)) refl

pub text-small : (n : ℕ) → n < 10 → number_text n ≡ (digit_zero + n) ∷ []
unfolding number_text digits
text-small zero h = refl
text-small (suc n) h = rw (lt-ltb (suc n) 10 h) refl

pub text-step : (n : ℕ) → 10 ≤ n → number_text n ≡ number_text (n / 10) ++ ((digit_zero + n % 10) ∷ [])
unfolding number_text digits
text-step zero h = absurd (omega arith)
text-step (suc n) h = rw (le-ltb (suc n) 10 h, digits-enough n (suc n / 10) (suc n / 10) (omega arith) (omega arith)) refl

-- ---- tests on a byte

pub digit-yes : (c : ℕ) → digit_zero ≤ c → c ≤ digit_nine → is_digit c ≡ true
unfolding is_digit
digit-yes c h k = rw (le-leb digit_zero c h, le-leb c digit_nine k) refl

pub digit-is : (c : ℕ) → is_digit c ≡ true → (digit_zero ≤ c) × (c ≤ digit_nine)
unfolding is_digit
digit-is c e = go (leb digit_zero c) (leb c digit_nine) refl refl e
  where
    go : (a b : Bool) → leb digit_zero c ≡ a → leb c digit_nine ≡ b → (a && b) ≡ true → (digit_zero ≤ c) × (c ≤ digit_nine)
    go true true p q r = (leb-true digit_zero c p, leb-true c digit_nine q)
    go true false p q r = absurd (false≢true r)
    go false b p q r = absurd (false≢true r)

pub digit-no : (c : ℕ) → (digit_zero ≤ c → c ≤ digit_nine → ⊥) → is_digit c ≡ false
digit-no c n = go (is_digit c) refl
  where
    go : (b : Bool) → is_digit c ≡ b → b ≡ false
    go true e = let d = digit-is c e in absurd (n d.0 d.1)
    go false e = refl

-- a text that begins with b is b and what is behind it
pub next-is : (b : ℕ) (s : List ℕ) → next_is b s ≡ true → s ≡ b ∷ drop 1 s
unfolding next_is
next-is b [] e = absurd (false≢true e)
next-is b (c ∷ s) e = ap (λ (x : ℕ). x ∷ s) (eqb-true c b e)

pub bad≢found : {v : ℕ} {rest : List ℕ} → bad ≡ found v rest → ⊥
bad≢found e = let z : ◌≡◌ {A = ℕ} 0 1 = cc in absurd (omega arith)

-- ---- reading, byte by byte

-- the first byte of a number
pub number-zero : (limit : ℕ) (s : List ℕ) → next_is digit_zero s ≡ true → read_number limit s ≡ cond (digit_next (drop 1 s)) bad (found 0 (drop 1 s))
unfolding read_number
number-zero limit s e = rw e refl

pub number-first : (limit : ℕ) (s : List ℕ) → next_is digit_zero s ≡ false → digit_next s ≡ true → read_number limit s ≡ read_more limit 0 s
unfolding read_number
number-first limit s z d = rw (z, d) refl

pub number-none : (limit : ℕ) (s : List ℕ) → digit_next s ≡ false → read_number limit s ≡ bad
unfolding read_number digit_next next_is
number-none limit [] d = refl
number-none limit (c ∷ s) d = rw (ne_eqb c digit_zero (λ e. false≢true (sym d ∙ digit-yes c (omega arith) (omega arith))), d) refl

-- an empty text does not read
pub number-nothing : (limit : ℕ) → read_number limit [] ≡ bad
unfolding digit_next
number-nothing limit = number-none limit [] refl

-- a digit more, and one too many
pub more-on : (limit v c : ℕ) (s : List ℕ) → is_digit c ≡ true → grown v c ≤ limit → read_more limit v (c ∷ s) ≡ read_more limit (grown v c) s
unfolding read_more
more-on limit v c s d k = rw (d, le-leb (grown v c) limit k) refl

pub more-over : (limit v c : ℕ) (s : List ℕ) → is_digit c ≡ true → limit < grown v c → read_more limit v (c ∷ s) ≡ bad
unfolding read_more
more-over limit v c s d k = rw (d, lt-leb (grown v c) limit k) refl

-- a number ends where no digit comes next
pub more-end : (limit v : ℕ) (s : List ℕ) → digit_next s ≡ false → read_more limit v s ≡ found v s
unfolding read_more digit_next
more-end limit v [] h = refl
more-end limit v (c ∷ s) h = rw h refl

-- ---- what was printed reads back

more-digit : (limit v d : ℕ) (s : List ℕ) → d < 10 → v * 10 + d ≤ limit → read_more limit v ((digit_zero + d) ∷ s) ≡ read_more limit (v * 10 + d) s
more-digit limit v d s h k =
    let e : grown v (digit_zero + d) ≡ v * 10 + d = omega arith in
    more-on limit v (digit_zero + d) s (digit-yes (digit_zero + d) (omega arith) (omega arith)) (omega arith) ∙ ap (λ (x : ℕ). read_more limit x s) e

one-digit : (limit n : ℕ) (s : List ℕ) → n < 10 → 1 ≤ n → n ≤ limit → read_number limit (number_text n ++ s) ≡ read_more limit n s
unfolding next_is digit_next
one-digit limit n s b p k =
    let e : 0 * 10 + n ≡ n = omega arith in
    rw (text-small n b)
    (number-first limit ((digit_zero + n) ∷ s) (ne_eqb (digit_zero + n) digit_zero (λ e. omega arith)) (digit-yes (digit_zero + n) (omega arith) (omega arith))
    ∙ more-digit limit 0 n s b (omega arith)
    ∙ ap (λ (v : ℕ). read_more limit v s) e)

-- the digits of n are read as n; the first argument bounds them
number_more : (k limit n : ℕ) (s : List ℕ) → n ≤ k → 1 ≤ n → n ≤ limit → read_number limit (number_text n ++ s) ≡ read_more limit n s
number_more zero limit n s h p l = absurd (omega arith)
number_more (suc k) limit n s h p l =
    by_cases (dec_lt n 10) (λ b. one-digit limit n s b p l)
    (λ b.
    let e : n / 10 * 10 + n % 10 ≡ n = omega arith in
    ap (λ (t : List ℕ). read_number limit (t ++ s)) (text-step n (omega arith))
    ∙ ap (read_number limit) (append_assoc (number_text (n / 10)) ((digit_zero + n % 10) ∷ []) s)
    ∙ number_more k limit (n / 10) ((digit_zero + n % 10) ∷ s) (omega arith) (omega arith) (omega arith)
    ∙ more-digit limit (n / 10) (n % 10) s (omega arith) (omega arith)
    ∙ ap (λ (v : ℕ). read_more limit v s) e)

pub number-back : (limit n : ℕ) (s : List ℕ) → n ≤ limit → digit_next s ≡ false → read_number limit (number_text n ++ s) ≡ found n s
unfolding read_number next_is number_text digits
number-back limit zero s k h = rw h refl
number-back limit (suc n) s k h = number_more (suc n) limit (suc n) s (omega arith) (omega arith) k ∙ more-end limit (suc n) s h

-- ---- nothing else reads

-- s is the text of v, at most the limit, and then `rest`, which begins with no digit
pub record Printed (limit : ℕ) (s : List ℕ) (v : ℕ) (rest : List ℕ) : Type 0 where
  pub same : s ≡ number_text v ++ rest
  pub small : v ≤ limit
  pub ends : digit_next rest ≡ false

text-grown : (v c : ℕ) → 1 ≤ v → is_digit c ≡ true → number_text (grown v c) ≡ number_text v ++ (c ∷ [])
text-grown v c p e =
    let d = digit-is c e in
    let a : grown v c / 10 ≡ v = omega arith in
    let b : digit_zero + grown v c % 10 ≡ c = omega arith in
    text-step (grown v c) (omega arith) ∙ rw (a, b) refl

more-only : (limit v : ℕ) (s : List ℕ) (w : ℕ) (rest : List ℕ) → 1 ≤ v → v ≤ limit → read_more limit v s ≡ found w rest → Printed limit (number_text v ++ s) w rest
unfolding read_more digit_next
more-only limit v [] w rest p k e =
    let a : v ≡ w = cc in
    let b : [] ≡ rest = cc in
    record { same = rw (a, b) refl; small = omega arith; ends = rw (← b) refl }
more-only limit v (c ∷ s) w rest p k e =
    go (is_digit c) refl (leb (grown v c) limit) refl e (λ r t. more-only limit (grown v c) s w rest (omega arith) (leb-true (grown v c) limit r) t)
  where
    go : (d : Bool) → is_digit c ≡ d → (l : Bool) → leb (grown v c) limit ≡ l
        → cond d (cond l (read_more limit (grown v c) s) bad) (found v (c ∷ s)) ≡ found w rest
        → (leb (grown v c) limit ≡ true → read_more limit (grown v c) s ≡ found w rest → Printed limit (number_text (grown v c) ++ s) w rest)
        → Printed limit (number_text v ++ (c ∷ s)) w rest
    go true q true r t ih =
        subst (λ (x : List ℕ). Printed limit x w rest)
        (ap (λ (x : List ℕ). x ++ s) (text-grown v c p q) ∙ append_assoc (number_text v) (c ∷ []) s)
        (ih r t)
    go true q false r t ih = absurd (bad≢found t)
    go false q l r t ih =
        let a : v ≡ w = cc in
        let b : (c ∷ s) ≡ rest = cc in
        record { same = rw (a, b) refl; small = omega arith; ends = rw (← b) q }

first-only : (limit c : ℕ) (s : List ℕ) (w : ℕ) (rest : List ℕ) → (c ≡ digit_zero → ⊥) → is_digit c ≡ true → read_more limit 0 (c ∷ s) ≡ found w rest → Printed limit (c ∷ s) w rest
unfolding read_more
first-only limit c s w rest n q e = go (leb (grown 0 c) limit) refl (rw q at e)
  where
    go : (l : Bool) → leb (grown 0 c) limit ≡ l → cond l (read_more limit (grown 0 c) s) bad ≡ found w rest → Printed limit (c ∷ s) w rest
    go true r t =
        let d = digit-is c q in
        let x : digit_zero + grown 0 c ≡ c = omega arith in
        subst (λ (y : List ℕ). Printed limit y w rest)
        (rw (text-small (grown 0 c) (omega arith), x) refl)
        (more-only limit (grown 0 c) s w rest (omega arith) (leb-true (grown 0 c) limit r) t)
    go false r t = absurd (bad≢found t)

pub number-only : (limit : ℕ) (s : List ℕ) (w : ℕ) (rest : List ℕ) → read_number limit s ≡ found w rest → Printed limit s w rest
unfolding read_number next_is digit_next number_text digits
number-only limit [] w rest e = absurd (bad≢found e)
number-only limit (c ∷ s) w rest e = go (eqb c digit_zero) refl (digit_next s) refl (is_digit c) refl e
  where
    go : (z : Bool) → eqb c digit_zero ≡ z → (n : Bool) → digit_next s ≡ n → (d : Bool) → is_digit c ≡ d
        → cond z (cond n bad (found 0 s)) (cond d (read_more limit 0 (c ∷ s)) bad) ≡ found w rest → Printed limit (c ∷ s) w rest
    go true p true n d q t = absurd (bad≢found t)
    go true p false n d q t =
        let a : 0 ≡ w = cc in
        let b : s ≡ rest = cc in
        record { same = rw (← a, ← b, eqb-true c digit_zero p) refl; small = omega arith; ends = rw (← b) n }
    go false p m n true q t = first-only limit c s w rest (eqb-false c digit_zero p) q t
    go false p m n false q t = absurd (bad≢found t)
