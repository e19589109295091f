-- What events mean: the holder sets that a trail of them leaves possible, read as it comes, the verdict that holder sets force, and whom to ask about.
-- A session may use a permission exactly when one of its roles holds it, as ANSI INCITS 359-2004 has it: it shares a role with the holder set.
--     last_permission, last_policy_state    permissions are 1 to this one, policy states 0 to this one
--     roles_in e           the roles that an event names
--     known n e            they all lie below the role count n
--     agrees e h           the holder set h agrees with the event
--     after e h            the holder set h after the event
--     Effect P e           the holder sets of P that agree with the event, as they are after it
--     Becomes es h₀ h      h₀ agrees with every reply of the trail as it arrives, and becomes h by its updates
--     Reached P es         what the starting sets P become along the trail
--     HolderSet n h        a holder set: any set of roles below n
--     Possible n es        the possible holder sets of a trail: what the holder sets become along it
--     NoneShares, AllShare, OneShares, OneSharesNone    no set, every set, some set of P shares a role with the session; some does not
--     Verdict a            a is 10, 11 or 12
--     Decides P s a        a is the answer to the session s that the holder sets P force
--     AskAbout P s r       r is whom to ask about where s is undecided: the lowest role of s that some holder set of P has
--     is_reply e, Reply e  the event is a reply, and no update
use Rattle.std.specs.Prelude.{◌≡◌, Bool, true, false, not, List, [], ◌∷◌, ◌↔◌, ◌⊎◌, ℕ, ◌<◌, T}
use Rattle.roles.specs.Sets.{In, single, all_below, Below, joined, without, shares, part_of}
use Rattle.meaning.specs.declared.Happening.{Happening}
use Rattle.meaning.specs.declared.Happening.TheVariants.{Allow, Deny, Given, Withdrawn}

abbrev pub last_permission : ℕ
last_permission = 4294967295

abbrev pub last_policy_state : ℕ
last_policy_state = 4294967295

unfoldable pub roles_in : Happening → ℕ
roles_in (Allow s) = s.bits
roles_in (Deny s) = s.bits
roles_in (Given r) = single r
roles_in (Withdrawn r) = single r

unfoldable pub known : ℕ → Happening → Bool
known n e = part_of (roles_in e) (all_below n)

-- an allow reply on s keeps the holder sets that share a role with s; a deny reply keeps those that share none
unfoldable pub agrees : Happening → ℕ → Bool
agrees (Allow s) h = shares h s.bits
agrees (Deny s) h = not (shares h s.bits)
agrees (Given r) h = true
agrees (Withdrawn r) h = true

-- a given role is put into every holder set; a withdrawn role is taken out
unfoldable pub after : Happening → ℕ → ℕ
after (Allow s) h = h
after (Deny s) h = h
after (Given r) h = joined h (single r)
after (Withdrawn r) h = without h (single r)

abbrev pub Effect : (ℕ → Type 0) → Happening → ℕ → Type 0
Effect P e h = (h₀ : ℕ) × P h₀ × T (agrees e h₀) × (after e h₀ ≡ h)

abbrev pub Becomes : List Happening → ℕ → ℕ → Type 0
Becomes [] h₀ h = h₀ ≡ h
Becomes (e ∷ es) h₀ h = T (agrees e h₀) × Becomes es (after e h₀) h

abbrev pub Reached : (ℕ → Type 0) → List Happening → ℕ → Type 0
Reached P es h = (h₀ : ℕ) × P h₀ × Becomes es h₀ h

abbrev pub HolderSet : ℕ → ℕ → Type 0
HolderSet n h = Below n h

abbrev pub Possible : ℕ → List Happening → ℕ → Type 0
Possible n = Reached (HolderSet n)

abbrev pub NoneShares : (ℕ → Type 0) → ℕ → Type 0
NoneShares P s = (h : ℕ) → P h → ¬ (T (shares h s))

abbrev pub AllShare : (ℕ → Type 0) → ℕ → Type 0
AllShare P s = (h : ℕ) → P h → T (shares h s)

abbrev pub OneShares : (ℕ → Type 0) → ℕ → Type 0
OneShares P s = (h : ℕ) × P h × T (shares h s)

abbrev pub OneSharesNone : (ℕ → Type 0) → ℕ → Type 0
OneSharesNone P s = (h : ℕ) × P h × ¬ (T (shares h s))

abbrev pub Verdict : ℕ → Type 0
Verdict a = (a ≡ 10) ⊎ ((a ≡ 11) ⊎ (a ≡ 12))

-- 10 deny, 11 allow, 12 undecided, each exactly on its ground
pub record Decides (P : ℕ → Type 0) (s a : ℕ) : Type 0 where
  pub one_of : Verdict a
  pub deny : (a ≡ 10) ↔ NoneShares P s
  pub allow : (a ≡ 11) ↔ AllShare P s
  pub undecided : (a ≡ 12) ↔ (OneShares P s × OneSharesNone P s)

pub record AskAbout (P : ℕ → Type 0) (s r : ℕ) : Type 0 where
  pub requested : In s r
  pub possible : (h : ℕ) × P h × In h r
  pub lowest : (q : ℕ) → q < r → In s q → (h : ℕ) → P h → ¬ (In h q)

abbrev pub is_reply : Happening → Bool
is_reply (Allow s) = true
is_reply (Deny s) = true
is_reply (Given r) = false
is_reply (Withdrawn r) = false

abbrev pub Reply : Happening → Type 0
Reply e = T (is_reply e)
