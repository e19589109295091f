-- What is made of the fields that the code has read. Assumes nothing.
use mathlib.Core.Path.{◌≡◌, refl, sym, ap, ◌∙◌, subst}
use mathlib.Core.List.{List}
use Prim.Native.Nat.{ℕ, ◌-◌, ◌≤◌}
use native.Mathlib.Omega.{arith}
use lib.ListN.{length, drop}
use Rattle.std.specs.Prelude.{Option, Some, None}
use Rattle.roles.specs.declared.RoleSet.{RoleSet}
use Rattle.text.specs.Number.{Got, found, bad, read_number}
use Rattle.text.specs.Set.{read_set}
use Rattle.text.specs.Field.{field, number_field, set_field}
use Rattle.requests.specs.Fields.{field_of, got, number_then, set_then, last_number, permission_set, permission_role, permission_set_field, permission_role_field}
use Rattle.meaning.specs.declared.Happening.{Happening}
use Rattle.requests.specs.Request.{told, in_state, EventOf}
use Rattle.requests.specs.declared.Request.{Request}
use Rattle.requests.specs.declared.Request.TheVariants.{Unreadable}
use Rattle.requests.proofs.FieldLaws.{number-last-only, number_behind, number-then-map, number-last-map, permission-set-map, permission-role-map}

module _ {A : Type 0} (other : A) where
  -- what is made of what was read, if it was
  abbrev pub made : {B : Type 0} → (B → A) → Option B → A
  made k (Some x) = k x
  made k None = other

  pub of-last : (k : ℕ → A) (limit : ℕ) (t : List ℕ) {f : Option ℕ} → f ≡ last_number None Some limit t → made k f ≡ last_number other k limit t
  of-last k limit t e = ap (made k) e ∙ number-last-map (made k) None Some limit t

  module _ (line : List ℕ) where
    field-got : {B : Type 0} (make : ℕ → B) (k : B → ℕ → A) (g : Got) → made (λ x. k x.0 x.1) (field make line g) ≡ got other (λ v u. k (make v) (length line - length u)) g
    field-got make k (found v u) = refl
    field-got make k bad = refl

    -- of a field and the place behind it
    pub of-number-place : (k : ℕ → ℕ → A) (limit : ℕ) (t : List ℕ) {f : Option (ℕ × ℕ)} → f ≡ number_field line (read_number limit (field_of t))
        → made (λ x. k x.0 x.1) f ≡ number_then other (λ v u. k v (length line - length u)) limit t
    unfolding number_then
    of-number-place k limit t e = ap (made (λ (x : ℕ × ℕ). k x.0 x.1)) e ∙ field-got (λ v. v) k (read_number limit (field_of t))

    pub of-set-place : (k : RoleSet → ℕ → A) (t : List ℕ) {f : Option (RoleSet × ℕ)} → f ≡ set_field line (read_set (field_of t))
        → made (λ x. k x.0 x.1) f ≡ set_then other (λ s u. k s (length line - length u)) t
    unfolding set_then
    of-set-place k t e = ap (made (λ (x : RoleSet × ℕ). k x.0 x.1)) e ∙ field-got (λ s. record { bits = s }) k (read_set (field_of t))

    -- of fields and the bytes behind them
    pub of_number_lem : (k : ℕ → List ℕ → A) (limit at : ℕ) {f : Option (ℕ × ℕ)} → f ≡ number_field line (read_number limit (field_of (drop at line)))
        → made (λ x. k x.0 (drop x.1 line)) f ≡ number_then other k limit (drop at line)
    of_number_lem k limit at e =
        of-number-place (λ v n. k v (drop n line)) limit (drop at line) e ∙ number-then-map (λ x. x) other _ k limit (drop at line) (λ v u r. ap (k v) (number_behind line at limit v u r))

    pub of-permission-set : (k : ℕ → RoleSet → List ℕ → A) (at : ℕ) {f : Option (ℕ × RoleSet × ℕ)} → f ≡ permission_set_field line (drop at line)
        → made (λ x. k x.0 x.1 (drop x.2 line)) f ≡ permission_set other k (drop at line)
    of-permission-set k at e =
        let make = made (λ (x : ℕ × RoleSet × ℕ). k x.0 x.1 (drop x.2 line)) in
        ap make e ∙ permission-set-map make None line at (λ p s u. Some (p, s, length line - length u)) k (λ p s u b. ap (k p s) b)

    pub of-permission-role : (k : ℕ → ℕ → List ℕ → A) (at : ℕ) {f : Option (ℕ × ℕ × ℕ)} → f ≡ permission_role_field line (drop at line)
        → made (λ x. k x.0 x.1 (drop x.2 line)) f ≡ permission_role other k (drop at line)
    of-permission-role k at e =
        let make = made (λ (x : ℕ × ℕ × ℕ). k x.0 x.1 (drop x.2 line)) in
        ap make e ∙ permission-role-map make None line at (λ p r u. Some (p, r, length line - length u)) k (λ p r u b. ap (k p r) b)

-- ---- events

module _ {A : Type 0} (M : A → Happening → Type 0) (line : List ℕ) where
  pub event-made : (x : ℕ × A × ℕ) (e : Happening) (q : Request) {f : Option (ℕ × A × ℕ)} → f ≡ Some x → M x.1 e → q ≡ in_state (told x.0 e) (drop x.2 line) → EventOf M line f q
  event-made x e q i m r = subst (λ o. EventOf M line o q) (sym i) (e, m, r)

  -- what is made is the one happening `kind` of what was read
  module _ (kind : A → Happening) (only : (x : A) (e : Happening) → M x e → e ≡ kind x) where
    pub event-so : (f : Option (ℕ × A × ℕ)) (q : Request) → EventOf M line f q → q ≡ made Unreadable (λ x. in_state (told x.0 (kind x.1)) (drop x.2 line)) f
    event-so None q r = r
    event-so (Some x) q r = r.2 ∙ ap (λ (e : Happening). in_state (told x.0 e) (drop x.2 line)) (only x.1 r.0 r.1)

pub event-of-set : {M : RoleSet → Happening → Type 0} (line : List ℕ) (kind : RoleSet → Happening) → ((x : RoleSet) (e : Happening) → M x e → e ≡ kind x)
    → {f : Option (ℕ × RoleSet × ℕ)} {q : Request} → f ≡ permission_set_field line (drop 1 line) → EventOf M line f q
    → q ≡ permission_set Unreadable (λ p s. in_state (told p (kind s))) (drop 1 line)
event-of-set {M} line kind only {f} {q} r e = event-so M line kind only f q e ∙ of-permission-set Unreadable line (λ p s. in_state (told p (kind s))) 1 r

pub event-of-role : {M : ℕ → Happening → Type 0} (line : List ℕ) (kind : ℕ → Happening) → ((x : ℕ) (e : Happening) → M x e → e ≡ kind x)
    → {f : Option (ℕ × ℕ × ℕ)} {q : Request} → f ≡ permission_role_field line (drop 1 line) → EventOf M line f q
    → q ≡ permission_role Unreadable (λ p r. in_state (told p (kind r))) (drop 1 line)
event-of-role {M} line kind only {f} {q} r e = event-so M line kind only f q e ∙ of-permission-role Unreadable line (λ p r. in_state (told p (kind r))) 1 r

-- a number that was read is at most its limit
pub last-small : (limit : ℕ) (t : List ℕ) (v : ℕ) → Some v ≡ last_number None Some limit t → v ≤ limit
last-small limit t v e =
    number-last-only None (λ f. Some v ≡ f → v ≤ limit) (λ q. let z : ◌≡◌ {A = ℕ} 0 1 = cc in absurd (omega arith)) Some limit t (λ w s h q. let x : v ≡ w = cc in omega arith) e
