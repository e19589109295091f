-- The readings hold: each is computed from the definitions, or follows from their laws. Assumes nothing.
use mathlib.Core.Path.{◌≡◌, refl, sym, ap, ◌∙◌}
use mathlib.Core.List.{◌∷◌, ◌++◌}
use Prim.Native.Nat.{ℕ, ◌≤◌}
use native.Mathlib.Omega.{arith}
use Rattle.roles.specs.Sets.{single, joined, set_of}
use Rattle.text.specs.Number.{digits, number_text, is_digit, digit_next, next_is, read_more, read_number}
use Rattle.text.specs.Set.{read_role, read_roles, read_set}
use Rattle.requests.specs.Fields.{last_count, field_of, number_then, set_then, last_number, permission_set, permission_role}
use Rattle.requests.specs.Request.{letter_o, letter_f, spaced, in_state, by_letter, request_of}
use Rattle.requests.specs.Readings.{Readings}
use Rattle.requests.specs.declared.Request.TheVariants.{Open, Forget, Unreadable}
use Rattle.requests.proofs.FieldLaws.{ends-space, number-then-back, number-last-back, number-last-only}

-- the text of so large a number is found by the laws: to compute it runs out of stack
last-largest : {A : Type 0} (other : A) (k : ℕ → A) → last_number other k 4294967295 (spaced 4294967295) ≡ k 4294967295
last-largest other k = number-last-back other k 4294967295 4294967295 (omega arith)

-- two numbers have two texts
spaced-one : (limit v w : ℕ) → v ≤ limit → w ≤ limit → spaced v ≡ spaced w → v ≡ w
spaced-one limit v w h k e = sym (number-last-back 0 (λ x. x) limit v h) ∙ ap (last_number 0 (λ x. x) limit) e ∙ number-last-back 0 (λ x. x) limit w k

last-too-large : {A : Type 0} (other : A) (k : ℕ → A) → last_number other k 4294967295 (spaced 4294967296) ≡ other
last-too-large other k =
    number-last-only other (λ q. q ≡ other) refl k 4294967295 (spaced 4294967296)
    (λ v e h. absurd (let z : ⊥ = omega (arith, spaced-one 4294967296 4294967296 v (omega arith) (omega arith) e) in z))

-- `O 8`, and then the policy state g
open-in-state : (g : ℕ) → request_of (letter_o ∷ (spaced 8 ++ spaced g)) ≡ in_state (Open 8) (spaced g)
unfolding by_letter request_of
open-in-state g = number-then-back Unreadable (λ n. in_state (Open n)) last_count 8 (spaced g) (omega arith) (ends-space (number_text g))

largest-permission : request_of (letter_f ∷ spaced 4294967295) ≡ Forget 4294967295
unfolding by_letter request_of
largest-permission = last-largest Unreadable Forget

permission-too-large : request_of (letter_f ∷ spaced 4294967296) ≡ Unreadable
unfolding by_letter request_of
permission-too-large = last-too-large Unreadable Forget

pub readings : Readings
unfolding single joined set_of digits number_text is_digit digit_next next_is read_more read_number read_role read_roles read_set field_of number_then set_then last_number permission_set permission_role by_letter request_of
readings = record {
  open-65 = refl;
  open-256 = refl;
  open-without-state = refl;
  leading-zero = refl;
  two-spaces = refl;
  trailing-space = refl;
  largest-state = open-in-state 4294967295 ∙ last-largest Unreadable (Open 8);
  state-too-large = open-in-state 4294967296 ∙ last-too-large Unreadable (Open 8);
  state-with-leading-zero = refl;
  role-63 = refl;
  role-64 = refl;
  no-roles = refl;
  rising-roles = refl;
  equal-roles = refl;
  falling-roles = refl;
  trailing-comma = refl;
  reply-without-state = refl;
  decide = refl;
  decide-with-state = refl;
  largest-permission = largest-permission;
  permission-too-large = permission-too-large;
  show = refl;
  show-with-space = refl;
  no_line = refl;
}
