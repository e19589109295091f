-- How an event is told by two numbers, a kind and a number beside it.
--     happened k x         what happened, as kind and number say it
--     Kinds                what each kind says of the number beside it
--     Told k x r           r is what happened, or that k is no kind
use Rattle.std.specs.Prelude.{◌≡◌, cond, ℕ, ◌≤◌, ◌<◌, eqb, Result, Ok, Err}
use Rattle.roles.specs.declared.RoleSet.{RoleSet}
use Rattle.meaning.specs.declared.Happening.{Happening}
use Rattle.meaning.specs.declared.Happening.TheVariants.{Allow, Deny, Given, Withdrawn}
use Rattle.meaning.specs.declared.UnknownKind.{UnknownKind}

-- kind 0 is deny and 1 allow, and the number a set; 2 is withdrawn and 3 given, and the number a role; what is above 3 is refused before
unfoldable pub happened : ℕ → ℕ → Happening
happened k x =
    cond (eqb k 0) (Deny (record { bits = x }))
    (cond (eqb k 1) (Allow (record { bits = x }))
    (cond (eqb k 2) (Withdrawn x)
    (Given x)))

abbrev pub Told : ℕ → ℕ → Result Happening UnknownKind → Type 0
Told k x (Ok e) = (k ≤ 3) × (e ≡ happened k x)
Told k x (Err u) = 3 < k

pub record Kinds : Type 0 where
  pub replies : (s : RoleSet) → (happened 0 s.bits ≡ Deny s) × (happened 1 s.bits ≡ Allow s)
  pub updates : (r : ℕ) → (happened 2 r ≡ Withdrawn r) × (happened 3 r ≡ Given r)
