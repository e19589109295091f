-- What an argument reads as. Assumes nothing.
use mathlib.Core.Path.{◌≡◌, refl, sym, ap, ◌∙◌}
use mathlib.Core.List.{List, [], ◌∷◌}
use Prim.Native.Nat.{ℕ, ◌≤◌, ◌<◌}
use native.Mathlib.Decide.{dec_le}
use native.Mathlib.Omega.{arith}
use borrow.Author.Tests.{le-leb, lt-leb}
use lib.ListN.{length, drop, drop_of_length-le, length-drop}
use Rattle.std.specs.Prelude.{Option, Some, None}
use Rattle.roles.specs.declared.RoleSet.{RoleSet}
use Rattle.meaning.specs.Events.{last_permission}
use Rattle.text.specs.Number.{Got, found, bad, read_number}
use Rattle.text.specs.Set.{read_set}
use Rattle.text.specs.Field.{number_field, set_field}
use Rattle.text.proofs.NumberLaws.{bad≢found, number-only}
use Rattle.text.proofs.Walks.{number-here, number_read, field-there, field-bad, set_here, set-read}
use Rattle.wall.specs.Shown.{whole, if_whole, permission_in, session_in}

-- ---- what stands behind

whole-bad : (v : ℕ) (rest : List ℕ) → 1 ≤ length rest → whole (found v rest) ≡ bad
unfolding whole
whole-bad v [] h = absurd (omega arith)
whole-bad v (c ∷ t) h = refl

whole-nothing : (v : ℕ) (rest : List ℕ) → rest ≡ [] → whole (found v rest) ≡ found v rest
unfolding whole
whole-nothing v [] e = refl
whole-nothing v (c ∷ t) e = let z : length (c ∷ t) ≡ 0 = ap length e in absurd (omega arith)

module _ (t : List ℕ) (n : ℕ) {v : ℕ} {g : Got} (e : g ≡ found v (drop n t)) where
  nothing-behind : length t ≤ n → found v (drop n t) ≡ whole g
  nothing-behind h = sym (ap whole e ∙ whole-nothing v (drop n t) (drop_of_length-le t h))

  more-behind : n < length t → bad ≡ whole g
  more-behind h = sym (ap whole e ∙ whole-bad v (drop n t) (omega (arith, length-drop n t)))

whole-found : (g : Got) (v : ℕ) (rest : List ℕ) → whole g ≡ found v rest → g ≡ found v rest
unfolding whole
whole-found (found w []) v rest e = e
whole-found (found w (c ∷ t)) v rest e = absurd (bad≢found e)
whole-found bad v rest e = absurd (bad≢found e)

-- what was read, by where its place is
module _ {A : Type 0} (n : ℕ) where
  -- what holds of it in each case holds of what is left of it
  by-place : (r o : Option (A × ℕ)) → (None ≡ r → None ≡ o) → ((v : A) (i : ℕ) → Some (v, i) ≡ r → i < n → None ≡ o)
      → ((v : A) (i : ℕ) → Some (v, i) ≡ r → n ≤ i → Some (v, i) ≡ o) → if_whole n r ≡ o
  by-place None o none cut kept = none refl
  by-place (Some (v, i)) o none cut kept = elim (dec_le n i) [
    | yes h ↦ rw (le-leb n i h) (kept v i refl h)
    | no h ↦ let l : i < n = omega arith in rw (lt-leb n i l) (cut v i refl l)
  ]

-- ---- PERMISSION

module _ (t : List ℕ) where
  no-permission : None ≡ number_field t (read_number last_permission t) → None ≡ number_field t (permission_in t)
  unfolding permission_in whole
  no-permission q = ap (λ (g : Got). number_field t (whole g)) (sym (field-bad (λ v. v) t (read_number last_permission t) q))

  module _ (v n : ℕ) (q : Some (v, n) ≡ number_field t (read_number last_permission t)) where
    permission-cut : n < length t → None ≡ number_field t (permission_in t)
    unfolding permission_in
    permission-cut h = ap (number_field t) (more-behind t n (number_read last_permission t 0 v n q).reads h)

    permission-whole : length t ≤ n → Some (v, n) ≡ number_field t (permission_in t)
    unfolding permission_in
    permission-whole h =
        let p = number_read last_permission t 0 v n q in
        number-here t v n p.inside ∙ ap (number_field t) (nothing-behind t n p.reads h)

  pub permission-read : (r : Option (ℕ × ℕ)) → r ≡ number_field t (read_number last_permission t) → if_whole (length t) r ≡ number_field t (permission_in t)
  permission-read r e =
      by-place (length t) r (number_field t (permission_in t)) (λ q. no-permission (q ∙ e)) (λ v n q. permission-cut v n (q ∙ e)) (λ v n q. permission-whole v n (q ∙ e))

-- what an argument that reads is found to be, and that it is a permission
pub number-found : (t : List ℕ) (g : Got) (v n : ℕ) → Some (v, n) ≡ number_field t g → (rest : List ℕ) × (g ≡ found v rest)
number-found t g v n q = let f = field-there (λ v. v) t g v n q in (f.rest, f.was ∙ ap (λ (x : ℕ). found x f.rest) (sym f.made))

pub permission-small : (t : List ℕ) (v n : ℕ) → Some (v, n) ≡ number_field t (permission_in t) → v ≤ last_permission
unfolding permission_in
permission-small t v n q =
    let f = number-found t (permission_in t) v n q in
    (number-only last_permission t v f.0 (whole-found (read_number last_permission t) v f.0 f.1)).small

-- ---- SET

module _ (t : List ℕ) where
  no-session : None ≡ set_field t (read_set t) → None ≡ set_field t (session_in t)
  unfolding session_in whole
  no-session q = ap (λ (g : Got). set_field t (whole g)) (sym (field-bad (λ x. record { bits = x }) t (read_set t) q))

  module _ (s : RoleSet) (n : ℕ) (q : Some (s, n) ≡ set_field t (read_set t)) where
    session-cut : n < length t → None ≡ set_field t (session_in t)
    unfolding session_in
    session-cut h = ap (set_field t) (more-behind t n (set-read t 0 s n q).reads h)

    session-whole : length t ≤ n → Some (s, n) ≡ set_field t (session_in t)
    unfolding session_in
    session-whole h =
        let p = set-read t 0 s n q in
        set_here t s n p.inside ∙ ap (set_field t) (nothing-behind t n p.reads h)

  pub session-read : (r : Option (RoleSet × ℕ)) → r ≡ set_field t (read_set t) → if_whole (length t) r ≡ set_field t (session_in t)
  session-read r e =
      by-place (length t) r (set_field t (session_in t)) (λ q. no-session (q ∙ e)) (λ s n q. session-cut s n (q ∙ e)) (λ s n q. session-whole s n (q ∙ e))

pub set_found : (t : List ℕ) (g : Got) (s : RoleSet) (n : ℕ) → Some (s, n) ≡ set_field t g → (rest : List ℕ) × (g ≡ found s.bits rest)
set_found t g s n q =
    let f = field-there (λ v. record { bits = v }) t g s n q in
    (f.rest, f.was ∙ ap (λ (x : RoleSet). found x.bits f.rest) (sym f.made))
