-- How long the texts are, and the bytes that they lack. Assumes nothing.
use mathlib.Core.Path.{◌≡◌, sym, ◌∙◌}
use mathlib.Core.Bool.{Bool, true, false, cond, false≢true}
use mathlib.Core.List.{List, [], ◌∷◌, ◌++◌}
use mathlib.Core.Logic.{◌≢◌, by_cases}
use Prim.Native.Nat.{ℕ, zero, suc, ◌+◌, ◌*◌, ◌/◌, ◌%◌, ◌^◌, ◌≤◌, ◌<◌}
use native.Mathlib.Decide.{dec_lt}
use native.Mathlib.Omega.{arith}
use lib.Dec.{eqb}
use lib.ListN.{length, length-append}
use Rattle.roles.specs.Sets.{most_roles, roles_of}
use Rattle.text.specs.Ascii.{digit_zero, comma, minus, Lacks}
use Rattle.text.specs.Number.{number_text, is_digit}
use Rattle.text.specs.Set.{role_text, roles_text, set_text}
use Rattle.text.proofs.NumberLaws.{text-small, text-step, digit-yes}
use Rattle.roles.proofs.RoleLists.{From, roles-from}

-- ---- lengths

-- a number of at most k + 1 digits
pub length-number : (k v : ℕ) → v < 10 ^ suc k → length (number_text v) ≤ suc k
length-number zero v h = rw (text-small v (omega arith)) (omega arith)
length-number (suc k) v h = by_cases (dec_lt v 10)
    (λ b. rw (text-small v b) (omega arith))
    (λ b. let i = length-number k (v / 10) (omega arith) in rw (text-step v (omega arith), length-append (number_text (v / 10)) ((digit_zero + v % 10) ∷ [])) (omega arith))

-- with their commas the roles from 10 on take three bytes each, and those below two
length-from-10 : (low : ℕ) (l : List ℕ) → low ≤ most_roles → 10 ≤ low → From low l → length (roles_text true l) + 3 * low ≤ 192
unfolding roles_text role_text
length-from-10 low [] h k f = omega arith
length-from-10 low (r ∷ l) h k f =
    let i = length-from-10 (suc r) l (omega arith) (omega arith) f.2 in
    let n = length-number 1 r (omega arith) in
    omega (arith, length-append (number_text r) (roles_text true l))

length_from : (low : ℕ) (l : List ℕ) → low ≤ 10 → From low l → length (roles_text true l) + 2 * low ≤ 182
unfolding roles_text role_text
length_from low [] h f = omega arith
length_from low (r ∷ l) h f = by_cases (dec_lt r 10)
    (λ b.
    let i = length_from (suc r) l (omega arith) f.2 in
    let n = length-number 0 r (omega arith) in
    omega (arith, length-append (number_text r) (roles_text true l)))
    (λ b.
    let i = length-from-10 (suc r) l (omega arith) (omega arith) f.2 in
    let n = length-number 1 r (omega arith) in
    omega (arith, length-append (number_text r) (roles_text true l)))

length-roles : (l : List ℕ) → From 0 l → length (roles_text false l) ≤ 181
unfolding roles_text role_text
length-roles [] f = omega arith
length-roles (r ∷ l) f = omega (arith, length_from 0 (r ∷ l) (omega arith) f)

-- all 64 roles make the longest text
pub length-set-text : (s : ℕ) → length (set_text s) ≤ 181
unfolding set_text roles_of
length-set-text s = go (eqb s 0)
  where
    go : (b : Bool) → length (cond b (minus ∷ []) (roles_text false (roles_of s))) ≤ 181
    go true = omega arith
    go false = length-roles (roles_of s) (roles-from most_roles 0 s (omega arith))

-- ---- bytes that are nowhere in a text

pub lacks-append : (b : ℕ) (t u : List ℕ) → Lacks b t → Lacks b u → Lacks b (t ++ u)
lacks-append b [] u h k = k
lacks-append b (c ∷ t) u h k = (h.0, lacks-append b t u h.1 k)

no-digit-is : (b d : ℕ) → is_digit b ≡ false → d < 10 → digit_zero + d ≢ b
no-digit-is b d n h e = false≢true (sym n ∙ digit-yes b (omega arith) (omega arith))

number-lacks-by : (k b v : ℕ) → v ≤ k → is_digit b ≡ false → Lacks b (number_text v)
number-lacks-by zero b v h n = rw (text-small v (omega arith)) (no-digit-is b v n (omega arith), tt)
number-lacks-by (suc k) b v h n = by_cases (dec_lt v 10)
    (λ s. rw (text-small v s) (no-digit-is b v n s, tt))
    (λ s. rw (text-step v (omega arith))
    (lacks-append b (number_text (v / 10)) ((digit_zero + v % 10) ∷ []) (number-lacks-by k b (v / 10) (omega arith) n) (no-digit-is b (v % 10) n (omega arith), tt)))

pub number-lacks : (b v : ℕ) → is_digit b ≡ false → Lacks b (number_text v)
number-lacks b v = number-lacks-by v b v (omega arith)

roles-lack : (b : ℕ) (later : Bool) (l : List ℕ) → is_digit b ≡ false → comma ≢ b → Lacks b (roles_text later l)
unfolding roles_text role_text
roles-lack b later [] n c = tt
roles-lack b true (r ∷ l) n c = (c, lacks-append b (number_text r) (roles_text true l) (number-lacks b r n) (roles-lack b true l n c))
roles-lack b false (r ∷ l) n c = lacks-append b (number_text r) (roles_text true l) (number-lacks b r n) (roles-lack b true l n c)

pub set-lacks : (b s : ℕ) → is_digit b ≡ false → comma ≢ b → minus ≢ b → Lacks b (set_text s)
unfolding set_text
set-lacks b s n c m = go (eqb s 0)
  where
    go : (e : Bool) → Lacks b (cond e (minus ∷ []) (roles_text false (roles_of s)))
    go true = (m, tt)
    go false = roles-lack b false (roles_of s) n c
