-- Fields: what was printed reads back, nothing else is read, and how the code's reading goes along. Assumes nothing.
use mathlib.Core.Path.{◌≡◌, refl, sym, ap, ◌∙◌}
use mathlib.Core.Bool.{Bool, true, false, cond}
use mathlib.Core.List.{List, [], ◌∷◌, ◌++◌, append-nil}
use Prim.Native.Nat.{ℕ, ◌+◌, ◌-◌, ◌^◌, ◌≤◌, ◌<◌}
use native.Mathlib.Omega.{arith}
use lib.ListN.{length, drop, drop_of_length-le}
use lib.Seq.{drop-drop}
use Rattle.std.specs.Prelude.{Some}
use Rattle.roles.specs.declared.RoleSet.{RoleSet}
use Rattle.roles.specs.Sets.{last_role, most_roles}
use Rattle.meaning.specs.Events.{last_permission}
use Rattle.text.specs.Ascii.{space}
use Rattle.text.specs.Number.{number_text, Got, found, bad, is_digit, digit_next, next_is, read_number}
use Rattle.text.specs.Set.{set_text, read_set, Ends}
use Rattle.text.specs.Field.{number_field, set_field}
use Rattle.text.proofs.NumberLaws.{next-is, bad≢found, number-nothing, number-back, number-only}
use Rattle.text.proofs.SetLaws.{set-nothing, set_back, set-only}
use Rattle.text.proofs.Walks.{next-cons, number_read, set-read}
use Rattle.requests.specs.Fields.{field_of, got, ended, number_then, set_then, last_number, permission_set, permission_role}
use Rattle.requests.specs.Request.{spaced, spaced_set}

-- ---- what was printed reads back

-- at the end of a line, and before the space of the next field
pub ends-nothing : Ends []
unfolding digit_next next_is
ends-nothing = record { digit = refl; comma = refl }

pub ends-space : (t : List ℕ) → Ends (space ∷ t)
unfolding digit_next is_digit next_is
ends-space t = record { digit = refl; comma = refl }

module _ {A : Type 0} (other : A) where
  pub number-then-back : (k : ℕ → List ℕ → A) (limit v : ℕ) (u : List ℕ) → v ≤ limit → Ends u → number_then other k limit (spaced v ++ u) ≡ k v u
  unfolding number_then field_of next_is
  number-then-back k limit v u h e = ap (got other k) (number-back limit v u h e.digit)

  set-then-back : (k : RoleSet → List ℕ → A) (s : RoleSet) (u : List ℕ) → s.bits < 2 ^ most_roles → Ends u → set_then other k (spaced_set s ++ u) ≡ k s u
  unfolding set_then field_of next_is
  set-then-back k s u h e = ap (got other (λ s u. k (record { bits = s }) u)) (set_back s.bits u h e)

  pub number-last-back : (k : ℕ → A) (limit v : ℕ) → v ≤ limit → last_number other k limit (spaced v) ≡ k v
  unfolding last_number
  number-last-back k limit v h =
      ap (number_then other (λ v u. ended other (k v) u) limit) (sym (append-nil (spaced v))) ∙ number-then-back (λ v u. ended other (k v) u) limit v [] h ends-nothing

  pub permission-set-back : (k : ℕ → RoleSet → List ℕ → A) (p : ℕ) (s : RoleSet) (u : List ℕ) → p ≤ last_permission → s.bits < 2 ^ most_roles → Ends u
      → permission_set other k (spaced p ++ (spaced_set s ++ u)) ≡ k p s u
  unfolding permission_set
  permission-set-back k p s u h b e =
      number-then-back (λ p u. set_then other (k p) u) last_permission p (spaced_set s ++ u) h (ends-space (set_text s.bits ++ u)) ∙ set-then-back (k p) s u b e

  pub permission-role-back : (k : ℕ → ℕ → List ℕ → A) (p r : ℕ) (u : List ℕ) → p ≤ last_permission → r ≤ last_role → Ends u
      → permission_role other k (spaced p ++ (spaced r ++ u)) ≡ k p r u
  unfolding permission_role
  permission-role-back k p r u h b e =
      number-then-back (λ p u. number_then other (k p) last_role u) last_permission p (spaced r ++ u) h (ends-space (number_text r ++ u)) ∙ number-then-back (k p) last_role r u b e

-- ---- only what was printed is read

-- a field that reads stands behind a space
field-spaced : (read : List ℕ → Got) (t : List ℕ) (v : ℕ) (u : List ℕ) → read [] ≡ bad → read (field_of t) ≡ found v u → t ≡ space ∷ field_of t
unfolding field_of
field-spaced read t v u n e = go (next_is space t) refl e
  where
    go : (b : Bool) → next_is space t ≡ b → read (cond b (drop 1 t) []) ≡ found v u → t ≡ space ∷ cond b (drop 1 t) []
    go true q r = next-is space t q
    go false q r = absurd (bad≢found (sym n ∙ r))

module _ {A : Type 0} (other : A) (P : A → Type 0) (none : P other) where
  got-only : (k : ℕ → List ℕ → A) (g : Got) → ((v : ℕ) (u : List ℕ) → g ≡ found v u → P (k v u)) → P (got other k g)
  got-only k (found v u) f = f v u refl
  got-only k bad f = none

  pub ended-only : (a : A) (t : List ℕ) → (t ≡ [] → P a) → P (ended other a t)
  ended-only a [] f = f refl
  ended-only a (c ∷ t) f = none

  pub number-then-only : (k : ℕ → List ℕ → A) (limit : ℕ) (t : List ℕ) → ((v : ℕ) (u : List ℕ) → t ≡ spaced v ++ u → v ≤ limit → P (k v u)) → P (number_then other k limit t)
  unfolding number_then
  number-then-only k limit t f = got-only k (read_number limit (field_of t)) (λ v u e.
      let p = number-only limit (field_of t) v u e in
      f v u (field-spaced (read_number limit) t v u (number-nothing limit) e ∙ ap {B = List ℕ} (λ x. space ∷ x) p.same) p.small)

  set-then-only : (k : RoleSet → List ℕ → A) (t : List ℕ) → ((s : RoleSet) (u : List ℕ) → t ≡ spaced_set s ++ u → s.bits < 2 ^ most_roles → P (k s u)) → P (set_then other k t)
  unfolding set_then
  set-then-only k t f = got-only (λ s u. k (record { bits = s }) u) (read_set (field_of t)) (λ s u e.
      let p = set-only (field_of t) s u e in
      f (record { bits = s }) u (field-spaced read_set t s u set-nothing e ∙ ap {B = List ℕ} (λ x. space ∷ x) p.0) p.1)

  pub number-last-only : (k : ℕ → A) (limit : ℕ) (t : List ℕ) → ((v : ℕ) → t ≡ spaced v → v ≤ limit → P (k v)) → P (last_number other k limit t)
  unfolding last_number
  number-last-only k limit t f =
      number-then-only (λ v u. ended other (k v) u) limit t (λ v u e h. ended-only (k v) u (λ n. f v (e ∙ rw n (append-nil (spaced v))) h))

  pub permission-set-only : (k : ℕ → RoleSet → List ℕ → A) (t : List ℕ)
      → ((p : ℕ) (s : RoleSet) (u : List ℕ) → t ≡ spaced p ++ (spaced_set s ++ u) → p ≤ last_permission → s.bits < 2 ^ most_roles → P (k p s u)) → P (permission_set other k t)
  unfolding permission_set
  permission-set-only k t f = number-then-only (λ p u. set_then other (k p) u) last_permission t (λ p w e h.
      set-then-only (k p) w (λ s u n b. f p s u (e ∙ ap (λ (x : List ℕ). spaced p ++ x) n) h b))

  pub permission-role-only : (k : ℕ → ℕ → List ℕ → A) (t : List ℕ)
      → ((p r : ℕ) (u : List ℕ) → t ≡ spaced p ++ (spaced r ++ u) → p ≤ last_permission → r ≤ last_role → P (k p r u)) → P (permission_role other k t)
  unfolding permission_role
  permission-role-only k t f = number-then-only (λ p u. number_then other (k p) last_role u) last_permission t (λ p w e h.
      number-then-only (k p) last_role w (λ r u n b. f p r u (e ∙ ap (λ (x : List ℕ). spaced p ++ x) n) h b))

-- ---- how the code goes along a line

module _ (line : List ℕ) (at : ℕ) where
  pub field-there : next_is space (drop at line) ≡ true → drop (at + 1) line ≡ field_of (drop at line)
  unfolding field_of
  field-there e = rw (e, drop-drop 1 at line) refl

  pub field-none : next_is space (drop at line) ≡ false → drop (length line) line ≡ field_of (drop at line)
  unfolding field_of
  field-none e = rw e (drop_of_length-le line {i = length line} (omega arith))

  field-place : (place : ℕ) × (drop place line ≡ field_of (drop at line))
  field-place = go (next_is space (drop at line)) refl
    where
      go : (b : Bool) → next_is space (drop at line) ≡ b → (place : ℕ) × (drop place line ≡ field_of (drop at line))
      go true e = (at + 1, field-there e)
      go false e = (length line, field-none e)

  -- what the code's answers say of the bytes
  pub number-spaced : (limit v n : ℕ) → Some (v, n) ≡ number_field line (read_number limit (field_of (drop at line)))
      → (read_number limit (field_of (drop at line)) ≡ found v (drop n line)) × (v ≤ limit)
  number-spaced limit v n q =
      let p = field-place in
      let e : drop p.0 line ≡ field_of (drop at line) = p.1 in
      let t = number_read limit line p.0 v n (rw e q) in
      (rw (← e) t.reads, t.small)

  set-spaced : (s : RoleSet) (n : ℕ) → Some (s, n) ≡ set_field line (read_set (field_of (drop at line))) → read_set (field_of (drop at line)) ≡ found s.bits (drop n line)
  set-spaced s n q =
      let p = field-place in
      let e : drop p.0 line ≡ field_of (drop at line) = p.1 in
      rw (← e) (set-read line p.0 s n (rw e q)).reads

  -- the bytes behind a field start at their place
  pub number_behind : (limit v : ℕ) (u : List ℕ) → read_number limit (field_of (drop at line)) ≡ found v u → drop (length line - length u) line ≡ u
  number_behind limit v u e =
      let q : found v (drop (length line - length u) line) ≡ found v u = sym (number-spaced limit v (length line - length u) (sym (ap (number_field line) e))).0 ∙ e in
      cc

  set-behind : (s : ℕ) (u : List ℕ) → read_set (field_of (drop at line)) ≡ found s u → drop (length line - length u) line ≡ u
  set-behind s u e =
      let q : found s (drop (length line - length u) line) ≡ found s u = sym (set-spaced (record { bits = s }) (length line - length u) (sym (ap (set_field line) e))) ∙ e in
      cc

module _ {A : Type 0} (other a : A) (line : List ℕ) (n : ℕ) where
  pub ended-there : length line ≤ n → a ≡ ended other a (drop n line)
  ended-there h = sym (ap (ended other a) (drop_of_length-le line h))

  pub ended-later : n < length line → other ≡ ended other a (drop n line)
  ended-later h = sym (ap (ended other a) (next-cons line n h))

-- ---- what is made of fields, made of the other thing that was made of them

module _ {A B : Type 0} (f : A → B) (other : A) where
  got-map : (k : ℕ → List ℕ → A) (l : ℕ → List ℕ → B) (g : Got) → ((v : ℕ) (u : List ℕ) → g ≡ found v u → f (k v u) ≡ l v u) → f (got other k g) ≡ got (f other) l g
  got-map k l (found v u) e = e v u refl
  got-map k l bad e = refl

  ended-map : (a : A) (t : List ℕ) → f (ended other a t) ≡ ended (f other) (f a) t
  ended-map a [] = refl
  ended-map a (c ∷ t) = refl

  pub number-then-map : (k : ℕ → List ℕ → A) (l : ℕ → List ℕ → B) (limit : ℕ) (t : List ℕ)
      → ((v : ℕ) (u : List ℕ) → read_number limit (field_of t) ≡ found v u → f (k v u) ≡ l v u) → f (number_then other k limit t) ≡ number_then (f other) l limit t
  unfolding number_then
  number-then-map k l limit t e = got-map k l (read_number limit (field_of t)) e

  set-then-map : (k : RoleSet → List ℕ → A) (l : RoleSet → List ℕ → B) (t : List ℕ)
      → ((s : ℕ) (u : List ℕ) → read_set (field_of t) ≡ found s u → f (k (record { bits = s }) u) ≡ l (record { bits = s }) u) → f (set_then other k t) ≡ set_then (f other) l t
  unfolding set_then
  set-then-map k l t e = got-map _ _ (read_set (field_of t)) e

  pub number-last-map : (k : ℕ → A) (limit : ℕ) (t : List ℕ) → f (last_number other k limit t) ≡ last_number (f other) (λ v. f (k v)) limit t
  unfolding last_number
  number-last-map k limit t = number-then-map _ _ limit t (λ v u e. ended-map (k v) u)

  module _ (line : List ℕ) (at : ℕ) where
    pub permission-set-map : (k : ℕ → RoleSet → List ℕ → A) (l : ℕ → RoleSet → List ℕ → B)
        → ((p : ℕ) (s : RoleSet) (u : List ℕ) → drop (length line - length u) line ≡ u → f (k p s u) ≡ l p s u)
        → f (permission_set other k (drop at line)) ≡ permission_set (f other) l (drop at line)
    unfolding permission_set
    permission-set-map k l e = number-then-map _ _ last_permission (drop at line) (λ p w r. set-then-map (k p) (l p) w (λ s u q.
        e p (record { bits = s }) u (set-behind line (length line - length w) s u (rw (number_behind line at last_permission p w r) q))))

    pub permission-role-map : (k : ℕ → ℕ → List ℕ → A) (l : ℕ → ℕ → List ℕ → B)
        → ((p r : ℕ) (u : List ℕ) → drop (length line - length u) line ≡ u → f (k p r u) ≡ l p r u)
        → f (permission_role other k (drop at line)) ≡ permission_role (f other) l (drop at line)
    unfolding permission_role
    permission-role-map k l e = number-then-map _ _ last_permission (drop at line) (λ p w h. number-then-map (k p) (l p) last_role w (λ r u q.
        e p r u (number_behind line (length line - length w) last_role r u (rw (number_behind line at last_permission p w h) q))))
