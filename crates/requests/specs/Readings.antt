-- Lines on both sides of what reads.
--     roles l     the set of the roles of a list
--     Readings    the request that each of them says
use Rattle.std.specs.Prelude.{◌≡◌, List, [], ◌∷◌, ◌++◌, ℕ}
use Rattle.roles.specs.Sets.{set_of}
use Rattle.roles.specs.declared.RoleSet.{RoleSet}
use Rattle.meaning.specs.declared.Happening.TheVariants.{Deny, Given}
use Rattle.text.specs.Ascii.{comma, minus, space}
use Rattle.text.specs.Number.{number_text}
use Rattle.requests.specs.Request.{letter_o, letter_d, letter_g, letter_q, letter_f, letter_s, spaced, told, request_of}
use Rattle.requests.specs.declared.Request.TheVariants.{Open, Decide, Forget, Show, Unreadable}

abbrev pub roles : List ℕ → RoleSet
roles l = record { bits = set_of l }

pub record Readings : Type 0 where
  pub open-65 : request_of (letter_o ∷ (spaced 65 ++ spaced 7)) ≡ Open 65 7
  pub open-256 : request_of (letter_o ∷ (spaced 256 ++ spaced 7)) ≡ Unreadable
  pub open-without-state : request_of (letter_o ∷ spaced 8) ≡ Unreadable
  pub leading-zero : request_of (letter_o ∷ (spaced 0 ++ number_text 8 ++ spaced 7)) ≡ Unreadable
  pub two-spaces : request_of (letter_o ∷ space ∷ (spaced 8 ++ spaced 7)) ≡ Unreadable
  pub trailing-space : request_of (letter_o ∷ (spaced 8 ++ spaced 7 ++ (space ∷ []))) ≡ Unreadable
  pub largest-state : request_of (letter_o ∷ (spaced 8 ++ spaced 4294967295)) ≡ Open 8 4294967295
  pub state-too-large : request_of (letter_o ∷ (spaced 8 ++ spaced 4294967296)) ≡ Unreadable
  pub state-with-leading-zero : request_of (letter_o ∷ (spaced 8 ++ spaced 0 ++ number_text 7)) ≡ Unreadable
  pub role-63 : request_of (letter_g ∷ (spaced 5 ++ spaced 63 ++ spaced 7)) ≡ told 5 (Given 63) 7
  pub role-64 : request_of (letter_g ∷ (spaced 5 ++ spaced 64 ++ spaced 7)) ≡ Unreadable
  pub no-roles : request_of (letter_d ∷ (spaced 5 ++ (space ∷ minus ∷ spaced 7))) ≡ told 5 (Deny (roles [])) 7
  pub rising-roles : request_of (letter_d ∷ (spaced 5 ++ spaced 1 ++ (comma ∷ number_text 2) ++ spaced 7)) ≡ told 5 (Deny (roles (1 ∷ 2 ∷ []))) 7
  pub equal-roles : request_of (letter_d ∷ (spaced 5 ++ spaced 1 ++ (comma ∷ number_text 1) ++ spaced 7)) ≡ Unreadable
  pub falling-roles : request_of (letter_d ∷ (spaced 5 ++ spaced 2 ++ (comma ∷ number_text 1) ++ spaced 7)) ≡ Unreadable
  pub trailing-comma : request_of (letter_d ∷ (spaced 5 ++ spaced 1 ++ (comma ∷ spaced 7))) ≡ Unreadable
  pub reply-without-state : request_of (letter_d ∷ (spaced 5 ++ spaced 1 ++ (comma ∷ number_text 2))) ≡ Unreadable
  pub decide : request_of (letter_q ∷ (spaced 5 ++ spaced 1 ++ (comma ∷ number_text 2))) ≡ Decide 5 (roles (1 ∷ 2 ∷ []))
  pub decide-with-state : request_of (letter_q ∷ (spaced 5 ++ spaced 1 ++ (comma ∷ number_text 2) ++ spaced 7)) ≡ Unreadable
  pub largest-permission : request_of (letter_f ∷ spaced 4294967295) ≡ Forget 4294967295
  pub permission-too-large : request_of (letter_f ∷ spaced 4294967296) ≡ Unreadable
  pub show : request_of (letter_s ∷ []) ≡ Show
  pub show-with-space : request_of (letter_s ∷ space ∷ []) ≡ Unreadable
  pub no_line : request_of [] ≡ Unreadable
