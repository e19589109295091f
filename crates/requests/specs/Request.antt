-- The requests of the line program: their texts, the ranges of their numbers, and what bytes read as.
--     most_bytes               how many bytes a line may have before its LF
--     letter_o, letter_a, letter_d, letter_g, letter_r, letter_q, letter_f, letter_s    the letters that lines begin with, as bytes
--     spaced v, spaced_set s   a number and a set, each behind a space
--     event_text p e g         the line that tells of the happening e about p and names the policy state g
--     request_text q           the line that asks for q, as Rules, The line program, writes it
--     HappeningInRange e       its set or role lies in its range
--     InRange q                q has a text: its numbers lie in their ranges
--     told p e g               the request that tells of the happening e about p and names the policy state g
--     in_state k t             `k g` of the policy state g that the line ends with
--     by_letter c t            the request of a line with the letter c and then t
--     request_of s             the request that a line's bytes say
--     EventOf M l f q          of the line l's fields f, a permission and what M makes a happening of, and the place behind them, the request is q
use Rattle.std.specs.Prelude.{cond, List, [], ◌∷◌, ◌++◌, ℕ, ◌≤◌, eqb, drop, ◌≡◌, Option, Some, None}
use Rattle.roles.specs.declared.RoleSet.{RoleSet}
use Rattle.roles.specs.Sets.{last_role, most_roles, Below}
use Rattle.meaning.specs.declared.Happening.{Happening}
use Rattle.meaning.specs.declared.Happening.TheVariants.{Allow, Deny, Given, Withdrawn}
use Rattle.meaning.specs.Events.{last_permission, last_policy_state}
use Rattle.text.specs.Ascii.{space}
use Rattle.text.specs.Number.{number_text}
use Rattle.text.specs.Set.{set_text}
use Rattle.requests.specs.Fields.{last_count, ended, number_then, last_number, permission_set, permission_role}
use Rattle.requests.specs.declared.Request.{Request}
use Rattle.requests.specs.declared.Request.TheVariants.{Open, Told, Decide, Forget, Show, Unreadable}

abbrev pub most_bytes : ℕ
most_bytes = 216

abbrev pub letter_o : ℕ
letter_o = 79

abbrev pub letter_a : ℕ
letter_a = 65

abbrev pub letter_d : ℕ
letter_d = 68

abbrev pub letter_g : ℕ
letter_g = 71

abbrev pub letter_r : ℕ
letter_r = 82

abbrev pub letter_q : ℕ
letter_q = 81

abbrev pub letter_f : ℕ
letter_f = 70

abbrev pub letter_s : ℕ
letter_s = 83

abbrev pub spaced : ℕ → List ℕ
spaced v = space ∷ number_text v

abbrev pub spaced_set : RoleSet → List ℕ
spaced_set s = space ∷ set_text s.bits

unfoldable pub event_text : ℕ → Happening → ℕ → List ℕ
event_text p (Allow s) g = letter_a ∷ (spaced p ++ (spaced_set s ++ spaced g))
event_text p (Deny s) g = letter_d ∷ (spaced p ++ (spaced_set s ++ spaced g))
event_text p (Given r) g = letter_g ∷ (spaced p ++ (spaced r ++ spaced g))
event_text p (Withdrawn r) g = letter_r ∷ (spaced p ++ (spaced r ++ spaced g))

unfoldable pub request_text : Request → List ℕ
request_text (Open n g) = letter_o ∷ (spaced n ++ spaced g)
request_text (Told e) = event_text e.permission e.happening e.state
request_text (Decide p s) = letter_q ∷ (spaced p ++ spaced_set s)
request_text (Forget p) = letter_f ∷ spaced p
request_text Show = letter_s ∷ []
request_text Unreadable = []

abbrev pub HappeningInRange : Happening → Type 0
HappeningInRange (Allow s) = Below most_roles s.bits
HappeningInRange (Deny s) = Below most_roles s.bits
HappeningInRange (Given r) = r ≤ last_role
HappeningInRange (Withdrawn r) = r ≤ last_role

abbrev pub InRange : Request → Type 0
InRange (Open n g) = (n ≤ last_count) × (g ≤ last_policy_state)
InRange (Told e) = (e.permission ≤ last_permission) × HappeningInRange e.happening × (e.state ≤ last_policy_state)
InRange (Decide p s) = (p ≤ last_permission) × Below most_roles s.bits
InRange (Forget p) = p ≤ last_permission
InRange Show = Unit {0}
InRange Unreadable = ⊥

abbrev pub told : ℕ → Happening → ℕ → Request
told p e g = Told (record { permission = p; happening = e; state = g })

abbrev pub in_state : (ℕ → Request) → List ℕ → Request
in_state k t = last_number Unreadable k last_policy_state t

unfoldable pub by_letter : ℕ → List ℕ → Request
by_letter c t =
    cond (eqb c letter_o) (number_then Unreadable (λ n. in_state (Open n)) last_count t)
    (cond (eqb c letter_a) (permission_set Unreadable (λ p s. in_state (told p (Allow s))) t)
    (cond (eqb c letter_d) (permission_set Unreadable (λ p s. in_state (told p (Deny s))) t)
    (cond (eqb c letter_g) (permission_role Unreadable (λ p r. in_state (told p (Given r))) t)
    (cond (eqb c letter_r) (permission_role Unreadable (λ p r. in_state (told p (Withdrawn r))) t)
    (cond (eqb c letter_q) (permission_set Unreadable (λ p s. ended Unreadable (Decide p s)) t)
    (cond (eqb c letter_f) (last_number Unreadable Forget last_permission t)
    (cond (eqb c letter_s) (ended Unreadable Show t)
    Unreadable)))))))

unfoldable pub request_of : List ℕ → Request
request_of [] = Unreadable
request_of (c ∷ t) = by_letter c t

abbrev pub EventOf : {A : Type 0} → (A → Happening → Type 0) → List ℕ → Option (ℕ × A × ℕ) → Request → Type 0
EventOf M l None q = q ≡ Unreadable
EventOf M l (Some f) q = (e : Happening) × M f.1 e × (q ≡ in_state (told f.0 e) (drop f.2 l))
