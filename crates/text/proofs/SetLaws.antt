-- Role sets as text: what was printed reads back, and nothing else reads. Assumes nothing.
use mathlib.Core.Path.{◌≡◌, refl, sym, ap, ◌∙◌}
use mathlib.Core.Bool.{Bool, true, false, cond}
use mathlib.Core.List.{List, [], ◌∷◌, ◌++◌, append_assoc}
use mathlib.Core.Logic.{◌⊎◌, inl, inr, ⊎_elim}
use Prim.Native.Nat.{ℕ, zero, suc, ◌+◌, ◌^◌, ◌≤◌, ◌<◌}
use native.Mathlib.Omega.{arith}
use borrow.Author.Tests.{lt-ltb, le-ltb, ne_eqb, ltb-false, eqb-true, eqb-false}
use lib.Dec.{lit<, ltb, eqb}
use lib.ListN.{drop}
use Rattle.roles.specs.Sets.{most_roles, last_role, single, joined, set_of, roles_of}
use Rattle.text.specs.Ascii.{comma, minus}
use Rattle.text.specs.Number.{number_text, Got, found, bad, is_digit, digit_next, next_is, read_number}
use Rattle.text.specs.Set.{role_text, roles_text, set_text, read_role, read_roles, read_set, Ends}
use Rattle.text.proofs.NumberLaws.{number-nothing, number-back, number-only, next-is, bad≢found}
use Rattle.roles.proofs.RoleLists.{From, roles-from, set_of-roles_of, roles_of-set_of, set_of-below, set_of-nonempty, joined-set_of, joined-alone}

-- ---- reading, role by role

-- the first byte of a set
pub set-minus : (t : List ℕ) → next_is minus t ≡ true → read_set t ≡ found 0 (drop 1 t)
unfolding read_set
set-minus t e = rw e refl

pub set-roles : (t : List ℕ) → next_is minus t ≡ false → read_set t ≡ read_roles most_roles 0 0 t
unfolding read_set
set-roles t e = rw e refl

-- a role that was read, and what comes after it
pub roles-step : (k s low r : ℕ) (t u : List ℕ) → read_number last_role t ≡ found r u → low ≤ r
    → read_roles (suc k) s low t ≡ cond (next_is comma u) (read_roles k (joined s (single r)) (suc r) (drop 1 u)) (found (joined s (single r)) u)
unfolding read_roles read_role
roles-step k s low r t u e h = rw (e, le-ltb r low h) refl

pub roles-bad : (k s low : ℕ) (t : List ℕ) → read_number last_role t ≡ bad → read_roles k s low t ≡ bad
unfolding read_roles read_role
roles-bad zero s low t e = refl
roles-bad (suc k) s low t e = rw e refl

pub roles-low : (k s low r : ℕ) (t u : List ℕ) → read_number last_role t ≡ found r u → r < low → read_roles k s low t ≡ bad
unfolding read_roles read_role
roles-low zero s low r t u e h = refl
roles-low (suc k) s low r t u e h = rw (e, lt-ltb r low h) refl

-- an empty text does not read
pub set-nothing : read_set [] ≡ bad
unfolding next_is
set-nothing = set-roles [] refl ∙ roles-bad most_roles 0 0 [] (number-nothing last_role)

-- ---- what was printed reads back

-- no digit comes after a role
later-digit : (l t : List ℕ) → digit_next t ≡ false → digit_next (roles_text true l ++ t) ≡ false
unfolding roles_text role_text digit_next is_digit
later-digit [] t e = e
later-digit (r ∷ l) t e = refl

first-role : (r : ℕ) (l t : List ℕ) → r ≤ last_role → digit_next t ≡ false → read_number last_role (roles_text false (r ∷ l) ++ t) ≡ found r (roles_text true l ++ t)
unfolding roles_text role_text
first-role r l t h e =
    ap (read_number last_role) (append_assoc (number_text r) (roles_text true l) t) ∙ number-back last_role r (roles_text true l ++ t) h (later-digit l t e)

roles-back : (r : ℕ) (l : List ℕ) (k s low : ℕ) (t : List ℕ) → From low (r ∷ l) → most_roles ≤ k + low → Ends t
    → read_roles k s low (roles_text false (r ∷ l) ++ t) ≡ found (joined s (set_of (r ∷ l))) t
unfolding roles_text role_text next_is
roles-back r l zero s low t f h e = absurd (omega arith)
roles-back r [] (suc k) s low t f h e =
    roles-step k s low r (roles_text false (r ∷ []) ++ t) t (first-role r [] t f.1 e.digit) f.0
    ∙ rw (e.comma, joined-alone s r) refl
roles-back r (q ∷ l) (suc k) s low t f h e =
    roles-step k s low r (roles_text false (r ∷ q ∷ l) ++ t) (roles_text true (q ∷ l) ++ t) (first-role r (q ∷ l) t f.1 e.digit) f.0
    ∙ roles-back q l k (joined s (single r)) (suc r) t f.2 (omega arith) e
    ∙ ap (λ (x : ℕ). found x t) (joined-set_of s r (q ∷ l))

minus-no-number : (limit : ℕ) (t : List ℕ) → read_number limit (minus ∷ t) ≡ bad
unfolding read_number next_is digit_next is_digit
minus-no-number limit t = refl

-- what starts with a number starts with no `-`
number-no-minus : (t : List ℕ) (v : ℕ) (u : List ℕ) → read_number last_role t ≡ found v u → next_is minus t ≡ false
number-no-minus t v u e = go (next_is minus t) refl
  where
    go : (b : Bool) → next_is minus t ≡ b → b ≡ false
    go true q = absurd (bad≢found (sym (minus-no-number last_role (drop 1 t)) ∙ ap (read_number last_role) (sym (next-is minus t q)) ∙ e))
    go false q = refl

pub set_back : (s : ℕ) (t : List ℕ) → s < 2 ^ most_roles → Ends t → read_set (set_text s ++ t) ≡ found s t
unfolding read_set set_text next_is roles_of joined set_of
set_back s t h e = go (eqb s 0) refl (roles_of s) (roles-from most_roles 0 s (omega arith)) (set_of-roles_of s h)
  where
    go : (b : Bool) → eqb s 0 ≡ b → (l : List ℕ) → From 0 l → set_of l ≡ s → read_set (cond b (minus ∷ []) (roles_text false l) ++ t) ≡ found s t
    go true p l f i = rw (eqb-true s 0 p) refl
    go false p [] f i = absurd (eqb-false s 0 p (sym i))
    go false p (r ∷ l) f i =
        let u : List ℕ = roles_text false (r ∷ l) ++ t in
        set-roles u (number-no-minus u r (roles_text true l ++ t) (first-role r l t f.1 e.digit))
        ∙ roles-back r l most_roles 0 0 t f (omega arith) e
        ∙ ap (λ (x : ℕ). found x t) i

-- ---- nothing else reads

-- t is the text of ascending roles, which beside those of s make v, and then `rest`
record RolesPrinted (s low : ℕ) (t : List ℕ) (v : ℕ) (rest : List ℕ) : Type 0 where
  first : ℕ
  others : List ℕ
  rising : From low (first ∷ others)
  same : t ≡ roles_text false (first ∷ others) ++ rest
  joins : v ≡ joined s (set_of (first ∷ others))

-- behind a role that was read the set ended, or more was read behind a comma
abbrev After : (ℕ → ℕ → List ℕ → Got) → ℕ → ℕ → List ℕ → ℕ → List ℕ → Type 0
After more s r u v rest =
    ((u ≡ rest) × (v ≡ joined s (single r))) ⊎ ((u ≡ comma ∷ drop 1 u) × (more (joined s (single r)) (suc r) (drop 1 u) ≡ found v rest))

role-only : (more : ℕ → ℕ → List ℕ → Got) (s low : ℕ) (g : Got) (v : ℕ) (rest : List ℕ) → read_role more s low g ≡ found v rest
    → (r : ℕ) × (u : List ℕ) × (g ≡ found r u) × (low ≤ r) × After more s r u v rest
unfolding read_role
role-only more s low bad v rest e = absurd (bad≢found e)
role-only more s low (found r u) v rest e = go (ltb r low) refl (next_is comma u) refl e
  where
    go : (b : Bool) → ltb r low ≡ b → (c : Bool) → next_is comma u ≡ c
        → cond b bad (cond c (more (joined s (single r)) (suc r) (drop 1 u)) (found (joined s (single r)) u)) ≡ found v rest
        → (q : ℕ) × (w : List ℕ) × (found r u ≡ found q w) × (low ≤ q) × After more s q w v rest
    go true p c q t = absurd (bad≢found t)
    go false p true q t = (r, u, refl, ltb-false r low p, inr (next-is comma u q, t))
    go false p false q t = (r, u, refl, ltb-false r low p, inl (cc, cc))

roles-only : (k s low : ℕ) (t : List ℕ) (v : ℕ) (rest : List ℕ) → read_roles k s low t ≡ found v rest → RolesPrinted s low t v rest
unfolding read_roles roles_text role_text
roles-only zero s low t v rest e = absurd (bad≢found e)
roles-only (suc k) s low t v rest e =
    let p = role-only (read_roles k) s low (read_number last_role t) v rest e in
    let r = p.0 in
    let u = p.1 in
    let n = number-only last_role t r u p.2 in
    ⊎_elim
    (λ d. record {
      first = r;
      others = [];
      rising = (p.3, n.small, tt);
      same = n.same ∙ ap (λ (x : List ℕ). number_text r ++ x) d.0 ∙ sym (append_assoc (number_text r) [] rest);
      joins = d.1 ∙ joined-alone s r;
    })
    (λ d.
    let i = roles-only k (joined s (single r)) (suc r) (drop 1 u) v rest d.1 in
    let l = i.first ∷ i.others in
    record {
      first = r;
      others = l;
      rising = (p.3, n.small, i.rising);
      same = n.same ∙ ap (λ (x : List ℕ). number_text r ++ x) (d.0 ∙ ap {B = List ℕ} (λ x. comma ∷ x) i.same) ∙ sym (append_assoc (number_text r) (roles_text true l) rest);
      joins = i.joins ∙ joined-set_of s r l;
    })
    p.4

pub set-only : (t : List ℕ) (v : ℕ) (rest : List ℕ) → read_set t ≡ found v rest → (t ≡ set_text v ++ rest) × (v < 2 ^ most_roles)
unfolding read_set set_text joined
set-only t v rest e = go (next_is minus t) refl e
  where
    go : (b : Bool) → next_is minus t ≡ b → cond b (found 0 (drop 1 t)) (read_roles most_roles 0 0 t) ≡ found v rest → (t ≡ set_text v ++ rest) × (v < 2 ^ most_roles)
    go true q d =
        let a : 0 ≡ v = cc in
        let b : drop 1 t ≡ rest = cc in
        (rw (← a, ← b) (next-is minus t q), rw (← a) (lit< tt))
    go false q d =
        let i = roles-only most_roles 0 0 t v rest d in
        let l = i.first ∷ i.others in
        let x : v ≡ set_of l = i.joins in
        (rw (x, ne_eqb (set_of l) 0 (set_of-nonempty i.first i.others), roles_of-set_of l i.rising) i.same, rw x (set_of-below l i.rising))
