-- The binary digits of a set: digit by digit what each operation does, and that the digits fix the set. Assumes nothing.
use mathlib.Core.Path.{◌≡◌, refl, sym, ap, ◌∙◌}
use mathlib.Core.Bool.{Bool, true, false, not, ◌&&◌, ◌||◌, true≢false, false≢true}
use Prim.Native.Nat.{ℕ, zero, suc, ◌+◌, ◌-◌, ◌*◌, ◌/◌, ◌%◌, ◌^◌, ◌<◌, min, max}
use native.Mathlib.Nat.{mod-lt, zero-lt-suc, zero-div, div-one, pow-succ', div-div-eq-div-mul}
use native.Mathlib.Omega.{arith}
use borrow.Author.Tests.{lt-ltb}
use lib.Arith.{bin_ind, digits_mod}
use lib.Bits.{bit_and, bit_or, bit_xor, differ, and_shr, or_shr, xor_shr, and_step, or_step, xor_step}
use lib.Pow.{pow_pos}
use lib.Dec.{eqb, ltb, leb-suc-suc, leb-suc-zero, eqb-zero-suc, eqb-suc-zero, eqb-suc-suc}
use Rattle.roles.specs.Sets.{has, joined, common, without, all_below, single}

-- what holds of 0 and 1 holds of each binary digit
digit : (P : ℕ → Type 0) → P 0 → P 1 → (x : ℕ) → x < 2 → P x
digit P p q zero h = p
digit P p q (suc zero) h = q
digit P p q (suc (suc x)) h = absurd (omega arith)

pub two_pos : 0 < 2
two_pos = zero-lt-suc 1

-- ---- one operation, one role

-- an operation that works on each pair of digits by f says of a role what g says of the two tests
module _ (op f : ℕ → ℕ → ℕ) (g : Bool → Bool → Bool)
    (shr : (a b k : ℕ) → op a b / 2 ^ k ≡ op (a / 2 ^ k) (b / 2 ^ k))
    (step : (a b : ℕ) → op a b ≡ op (a / 2) (b / 2) * 2 + f (a % 2) (b % 2))
    (small : (x : ℕ) → x < 2 → (y : ℕ) → y < 2 → (f x y < 2) × (eqb (f x y) 1 ≡ g (eqb x 1) (eqb y 1))) where
  has-op : (a b r : ℕ) → has (op a b) r ≡ g (has a r) (has b r)
  unfolding has
  has-op a b r =
      let x : ℕ = a / 2 ^ r in
      let y : ℕ = b / 2 ^ r in
      let s = small (x % 2) (mod-lt x two_pos) (y % 2) (mod-lt y two_pos) in
      ap (λ (z : ℕ). eqb (z % 2) 1) (shr a b r ∙ step x y)
      ∙ ap (λ (z : ℕ). eqb z 1) (digits_mod (op (x / 2) (y / 2)) s.0)
      ∙ s.1

-- f at the digits 0 and 1, from its four values
module _ (f : ℕ → ℕ → ℕ) (g : Bool → Bool → Bool) where
  Small : ℕ → ℕ → Type 0
  Small x y = (f x y < 2) × (eqb (f x y) 1 ≡ g (eqb x 1) (eqb y 1))

  four : Small 0 0 → Small 0 1 → Small 1 0 → Small 1 1 → (x : ℕ) → x < 2 → (y : ℕ) → y < 2 → Small x y
  four a b c d = digit (λ (x : ℕ). (y : ℕ) → y < 2 → Small x y) (digit (Small 0) a b) (digit (Small 1) c d)

abbrev differs : Bool → Bool → Bool
differs true b = not b
differs false b = b

pub has-joined : (s t r : ℕ) → has (joined s t) r ≡ (has s r || has t r)
unfolding joined four Small
has-joined = has-op bit_or max ◌||◌ or_shr or_step (four max ◌||◌ (omega arith, refl) (omega arith, refl) (omega arith, refl) (omega arith, refl))

pub has-common : (s t r : ℕ) → has (common s t) r ≡ (has s r && has t r)
unfolding common four Small
has-common = has-op bit_and min ◌&&◌ and_shr and_step (four min ◌&&◌ (omega arith, refl) (omega arith, refl) (omega arith, refl) (omega arith, refl))

less : (a b : Bool) → differs a (a && b) ≡ (a && not b)
less true b = refl
less false b = refl

pub has-without : (s t r : ℕ) → has (without s t) r ≡ (has s r && not (has t r))
unfolding without four Small
has-without s t r =
    has-op bit_xor differ differs xor_shr xor_step (four differ differs (omega arith, refl) (omega arith, refl) (omega arith, refl) (omega arith, refl)) s (common s t) r
    ∙ ap (differs (has s r)) (has-common s t r)
    ∙ less (has s r) (has t r)

-- ---- from one digit to the next

pub has-zero : (s : ℕ) → has s 0 ≡ eqb (s % 2) 1
unfolding has
has-zero s = ap (λ (z : ℕ). eqb (z % 2) 1) (div-one s)

pub has-suc : (s r : ℕ) → has s (suc r) ≡ has (s / 2) r
unfolding has
has-suc s r = ap (λ (z : ℕ). eqb (z % 2) 1) (ap (λ (z : ℕ). s / z) (pow-succ' 2 r) ∙ sym (div-div-eq-div-mul s 2 (2 ^ r)))

pub has-empty : (r : ℕ) → has 0 r ≡ false
unfolding has
has-empty r = ap (λ (z : ℕ). eqb (z % 2) 1) (zero-div (2 ^ r))

-- ---- the named members

pub has-single : (r q : ℕ) → has (single r) q ≡ eqb r q
unfolding single
has-single zero zero = has-zero 1
has-single zero (suc q) = has-suc 1 q ∙ has-empty q ∙ sym (eqb-zero-suc q)
has-single (suc r) zero =
    let even : 2 ^ suc r % 2 ≡ 0 = omega arith in
    has-zero (2 ^ suc r) ∙ ap (λ (z : ℕ). eqb z 1) even ∙ sym (eqb-suc-zero r)
has-single (suc r) (suc q) =
    let half : 2 ^ suc r / 2 ≡ 2 ^ r = omega arith in
    has-suc (2 ^ suc r) q ∙ ap (λ (z : ℕ). has z q) half ∙ has-single r q ∙ sym (eqb-suc-suc r q)

pub has-all_below : (n r : ℕ) → has (all_below n) r ≡ ltb r n
unfolding all_below
has-all_below zero r = has-empty r ∙ sym (leb-suc-zero r)
has-all_below (suc n) zero =
    let pos = pow_pos n in
    let odd : (2 ^ suc n - 1) % 2 ≡ 1 = omega arith in
    has-zero (2 ^ suc n - 1) ∙ ap (λ (z : ℕ). eqb z 1) odd ∙ sym (lt-ltb 0 (suc n) (zero-lt-suc n))
has-all_below (suc n) (suc r) =
    let pos = pow_pos n in
    let half : (2 ^ suc n - 1) / 2 ≡ 2 ^ n - 1 = omega arith in
    has-suc (2 ^ suc n - 1) r ∙ ap (λ (z : ℕ). has z r) half ∙ has-all_below n r ∙ sym (leb-suc-suc (suc r) n)

-- ---- the digits fix the set

digit-ext : (x : ℕ) → x < 2 → (y : ℕ) → y < 2 → eqb x 1 ≡ eqb y 1 → x ≡ y
digit-ext =
    digit (λ (x : ℕ). (y : ℕ) → y < 2 → eqb x 1 ≡ eqb y 1 → x ≡ y)
    (digit (λ (y : ℕ). eqb 0 1 ≡ eqb y 1 → 0 ≡ y) (λ e. refl) (λ e. absurd (false≢true e)))
    (digit (λ (y : ℕ). eqb 1 1 ≡ eqb y 1 → 1 ≡ y) (λ e. absurd (true≢false e)) (λ e. refl))

halves-ext : (a b : ℕ) → a / 2 ≡ b / 2 → eqb (a % 2) 1 ≡ eqb (b % 2) 1 → a ≡ b
halves-ext a b e d =
    let q = digit-ext (a % 2) (mod-lt a two_pos) (b % 2) (mod-lt b two_pos) d in
    omega arith

empty-ext : (b : ℕ) → ((r : ℕ) → has b r ≡ false) → 0 ≡ b
empty-ext =
    bin_ind (λ (b : ℕ). ((r : ℕ) → has b r ≡ false) → 0 ≡ b) (λ e. refl)
    (λ b ih e. halves-ext 0 b (ih (λ r. sym (has-suc b r) ∙ e (suc r))) (sym (sym (has-zero b) ∙ e 0)))

pub has-ext : (a b : ℕ) → ((r : ℕ) → has a r ≡ has b r) → a ≡ b
has-ext =
    bin_ind (λ (a : ℕ). (b : ℕ) → ((r : ℕ) → has a r ≡ has b r) → a ≡ b)
    (λ b e. empty-ext b (λ r. sym (e r) ∙ has-empty r))
    (λ a ih b e. halves-ext a b (ih (b / 2) (λ r. sym (has-suc a r) ∙ e (suc r) ∙ has-suc b r)) (sym (has-zero a) ∙ e 0 ∙ has-zero b))
