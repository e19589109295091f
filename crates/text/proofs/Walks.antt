-- The readers along a line: what stands at a place, and what an answer of the code says of the bytes. Assumes nothing.
use mathlib.Core.Path.{◌≡◌, refl, sym, ap, ◌∙◌, subst}
use mathlib.Core.Bool.{true, false, cond, false≢true}
use mathlib.Core.List.{List, [], ◌∷◌, ◌++◌, append_assoc}
use mathlib.Core.Logic.{by_cases}
use Prim.Native.Nat.{ℕ, zero, suc, ◌+◌, ◌-◌, ◌≤◌, ◌<◌}
use native.Mathlib.Decide.{dec_lt}
use native.Mathlib.Numerals.{add-one}
use native.Mathlib.Omega.{arith}
use lib.Dec.{eqb}
use Rattle.std.specs.Prelude.{Option, Some, None}
use Rattle.std.specs.Option.{option_eq}
use Rattle.std.specs.Slice.{IsItemAt}
use denote.Bor.{Bor}
use lib.ListN.{length, take, drop, get_or, drop_of_length-le, length-drop, length-append, take-append-drop}
use lib.Seq.{drop-cons, drop_at, drop-drop, take-length}
use Rattle.roles.specs.Sets.{single, joined, last_role, most_roles}
use Rattle.roles.specs.declared.RoleSet.{RoleSet}
use Rattle.text.specs.Ascii.{comma}
use Rattle.text.specs.Number.{number_text, Got, found, bad, is_digit, digit_next, next_is, read_number}
use Rattle.text.specs.Set.{set_text, read_roles, read_set}
use Rattle.text.specs.Field.{field, number_field, set_field}
use Rattle.text.proofs.NumberLaws.{number-only}
use Rattle.text.proofs.SetLaws.{set-only, roles-step, roles-bad, roles-low}

-- ---- the byte at a place

pub next-cons : (line : List ℕ) (i : ℕ) → i < length line → drop i line ≡ get_or line i 0 ∷ drop (i + 1) line
next-cons line i h = rw add-one (drop-cons line i 0 h)

pub digit-there : (line : List ℕ) (i : ℕ) → i < length line → is_digit (get_or line i 0) ≡ digit_next (drop i line)
unfolding digit_next
digit-there line i h = sym (ap digit_next (next-cons line i h))

pub digit-past : (line : List ℕ) (i : ℕ) → length line ≤ i → false ≡ digit_next (drop i line)
unfolding digit_next
digit-past line i h = sym (ap digit_next (drop_of_length-le line h))

pub byte_past : (b : ℕ) (line : List ℕ) (i : ℕ) → length line ≤ i → false ≡ next_is b (drop i line)
unfolding next_is
byte_past b line i h = sym (ap (next_is b) (drop_of_length-le line h))

-- what `get` lends at a place is the first of the bytes from there on
module _ (line : List ℕ) (i : ℕ) {r : Option (Bor ℕ)} (g : IsItemAt line i r) where
  pub lent-first : {x : Bor ℕ} → r ≡ Some x → drop i line ≡ x.now ∷ drop (i + 1) line
  lent-first {x} e =
      let h = subst (IsItemAt line i) e g in
      next-cons line i h.3.0 ∙ ap (λ (c : ℕ). c ∷ drop (i + 1) line) (sym (h.3.1 0))

  pub lent-none : r ≡ None → drop i line ≡ []
  lent-none e = drop_of_length-le line (subst (IsItemAt line i) e g).3

pub byte-lent : (b : ℕ) (line : List ℕ) (i : ℕ) (r : Option (Bor ℕ)) (y : Bor ℕ) → IsItemAt line i r → y.now ≡ b → option_eq (λ x y. eqb x.now y.now) r (Some y) ≡ next_is b (drop i line)
unfolding next_is
byte-lent b line i None y g e = rw (lent-none line i g refl) refl
byte-lent b line i (Some x) y g e = rw (lent-first line i g {x = x} refl, e) refl

-- a byte that is there stands inside the line
pub byte_inside : (b : ℕ) (line : List ℕ) (i : ℕ) → next_is b (drop i line) ≡ true → i < length line
byte_inside b line i e = by_cases (dec_lt i (length line)) (λ h. h) (λ h. absurd (false≢true (byte_past b line i (omega arith) ∙ e)))

-- the bytes from a place on, as a range
pub rest-range : (line : List ℕ) (i : ℕ) → take (length line - i) (drop i line) ≡ drop i line
rest-range line i = rw (← length-drop i line) (take-length (drop i line))

-- ---- the place behind a text

-- the place at which the bytes behind start
pub place-back : (line : List ℕ) (i : ℕ) → i ≤ length line → length line - length (drop i line) ≡ i
place-back line i h = omega (arith, length-drop i line)

pub field-here : {A : Type 0} (make : ℕ → A) (line : List ℕ) (v i : ℕ) → i ≤ length line → Some (make v, i) ≡ field make line (found v (drop i line))
field-here make line v i h = ap (λ (n : ℕ). Some (make v, n)) (sym (place-back line i h))

pub number-here : (line : List ℕ) (v i : ℕ) → i ≤ length line → Some (v, i) ≡ number_field line (found v (drop i line))
number-here = field-here (λ v. v)

pub set_here : (line : List ℕ) (s : RoleSet) (i : ℕ) → i ≤ length line → Some (s, i) ≡ set_field line (found s.bits (drop i line))
set_here line s = field-here (λ s. record { bits = s }) line s.bits

behind : (line t rest : List ℕ) (i : ℕ) → drop i line ≡ t ++ rest → (drop (length line - length rest) line ≡ rest) × (length line - length rest ≤ length line)
behind line t rest i e =
    let w : line ≡ (take i line ++ t) ++ rest = sym (take-append-drop i line) ∙ ap (λ (x : List ℕ). take i line ++ x) e ∙ sym (append_assoc (take i line) t rest) in
    let n : length line ≡ length (take i line ++ t) + length rest = ap length w ∙ length-append (take i line ++ t) rest in
    (ap (drop (length line - length rest)) w ∙ drop_at (take i line ++ t) rest (length line - length rest) (omega arith), omega arith)

-- ---- what an answer of the code says of the bytes

pub record FieldThere {A : Type 0} (make : ℕ → A) (line : List ℕ) (g : Got) (a : A) (n : ℕ) : Type 0 where
  pub value : ℕ
  pub rest : List ℕ
  pub was : g ≡ found value rest
  pub made : a ≡ make value
  pub place : n ≡ length line - length rest

module _ {A : Type 0} (make : ℕ → A) (line : List ℕ) where
  pub field-there : (g : Got) (a : A) (n : ℕ) → Some (a, n) ≡ field make line g → FieldThere make line g a n
  field-there (found v rest) a n q =
      let p : (a, n) ≡ (make v, length line - length rest) = cc in
      record { value = v; rest = rest; was = refl; made = ap (λ (x : A × ℕ). x.0) p; place = ap (λ (x : A × ℕ). x.1) p }
  field-there bad a n q = let z : ◌≡◌ {A = ℕ} 0 1 = cc in absurd (omega arith)

  pub field-bad : (g : Got) → None ≡ field make line g → g ≡ bad
  field-bad (found w rest) q = let z : ◌≡◌ {A = ℕ} 0 1 = cc in absurd (omega arith)
  field-bad bad q = refl

-- of `read_number`
pub record NumberThere (limit : ℕ) (line : List ℕ) (i v n : ℕ) : Type 0 where
  pub reads : read_number limit (drop i line) ≡ found v (drop n line)
  pub small : v ≤ limit
  pub inside : n ≤ length line

pub number_read : (limit : ℕ) (line : List ℕ) (i v n : ℕ) → Some (v, n) ≡ number_field line (read_number limit (drop i line)) → NumberThere limit line i v n
number_read limit line i v n q =
    let f = field-there (λ v. v) line (read_number limit (drop i line)) v n q in
    let p = number-only limit (drop i line) f.value f.rest f.was in
    let b = behind line (number_text f.value) f.rest i p.same in
    record { reads = cc; small = omega arith; inside = omega arith }

-- of `read_set`
pub record SetThere (line : List ℕ) (i : ℕ) (s : RoleSet) (n : ℕ) : Type 0 where
  pub reads : read_set (drop i line) ≡ found s.bits (drop n line)
  pub inside : n ≤ length line

pub set-read : (line : List ℕ) (i : ℕ) (s : RoleSet) (n : ℕ) → Some (s, n) ≡ set_field line (read_set (drop i line)) → SetThere line i s n
set-read line i s n q =
    let f = field-there (λ v. record { bits = v }) line (read_set (drop i line)) s n q in
    let p = set-only (drop i line) f.value f.rest f.was in
    let b = behind line (set_text f.value) f.rest i p.0 in
    let x : s.bits ≡ f.value = ap (λ (r : RoleSet). r.bits) f.made in
    let y : drop n line ≡ f.rest = ap (λ (k : ℕ). drop k line) f.place ∙ b.0 in
    record { reads = f.was ∙ sym (ap (λ (w : ℕ). found w (drop n line)) x ∙ ap (found f.value) y); inside = omega arith }

-- ---- along the roles of a set

-- the answer for the roles not yet passed is the answer for all
pub record RolesLeft (line : List ℕ) (at s low i : ℕ) : Type 0 where
  pub turns : ℕ
  pub enough : most_roles ≤ turns + low
  pub same : read_roles turns s low (drop i line) ≡ read_roles most_roles 0 0 (drop at line)

pub roles-start : (line : List ℕ) (at : ℕ) → RolesLeft line at 0 0 at
roles-start line at = record { turns = most_roles; enough = omega arith; same = refl }

module _ {line : List ℕ} {at s low i : ℕ} (l : RolesLeft line at s low i) where
  pub roles-none : read_number last_role (drop i line) ≡ bad → bad ≡ read_roles most_roles 0 0 (drop at line)
  roles-none e = sym (roles-bad l.turns s low (drop i line) e) ∙ l.same

  module _ {r n : ℕ} (t : NumberThere last_role line i r n) where
    pub roles-fall : r < low → bad ≡ read_roles most_roles 0 0 (drop at line)
    roles-fall h = sym (roles-low l.turns s low r (drop i line) (drop n line) t.reads h) ∙ l.same

    -- what is left behind a role, with one turn less
    abbrev Passed : ℕ → Type 0
    Passed k =
        (most_roles ≤ k + (r + 1))
        × (cond (next_is comma (drop n line)) (read_roles k (joined s (single r)) (suc r) (drop 1 (drop n line))) (found (joined s (single r)) (drop n line))
        ≡ read_roles most_roles 0 0 (drop at line))

    role-passed : low ≤ r → (k : ℕ) × Passed k
    role-passed h = go l.turns l.enough l.same
      where
        go : (k : ℕ) → most_roles ≤ k + low → read_roles k s low (drop i line) ≡ read_roles most_roles 0 0 (drop at line) → (k : ℕ) × Passed k
        go zero m q = let b = t.small in absurd (omega arith)
        go (suc k) m q = (k, (omega arith, sym (roles-step k s low r (drop i line) (drop n line) t.reads h) ∙ q))

    pub roles-end : low ≤ r → next_is comma (drop n line) ≡ false → found (joined s (single r)) (drop n line) ≡ read_roles most_roles 0 0 (drop at line)
    roles-end h e = rw e at (role-passed h).1.1

    pub roles-comma : low ≤ r → next_is comma (drop n line) ≡ true → RolesLeft line at (joined s (single r)) (r + 1) (n + 1)
    roles-comma h e = let p = role-passed h in record {
      turns = p.0;
      enough = p.1.0;
      same = rw (add-one r, ← drop-drop 1 n line) (rw e at p.1.1);
    }
