-- What the parts of a row say of the holder sets that are possible, each part by itself.
--     NoneHas P r, AllHave P r    no holder set of P has the role r; every one has it
--     LeastMet P s                every holder set of P shares a role with s, and s has no smaller part of which that is true
--     Says n P w                  the denied roles are those that no holder set of P has, the open sets are the least sets that all of them meet, and
--                                 {r} is one of these exactly where all have r
use Rattle.std.specs.Prelude.{◌≡◌, ◌↔◌, ℕ, ◌<◌, T}
use Rattle.roles.specs.Sets.{In, single, part_of}
use Rattle.meaning.specs.Events.{AllShare}
use Rattle.meaning.specs.Lists.{Mem}
use Rattle.meaning.specs.Rows.{Row}

abbrev pub NoneHas : (ℕ → Type 0) → ℕ → Type 0
NoneHas P r = (h : ℕ) → P h → ¬ (In h r)

abbrev pub AllHave : (ℕ → Type 0) → ℕ → Type 0
AllHave P r = (h : ℕ) → P h → In h r

pub record LeastMet (P : ℕ → Type 0) (s : ℕ) : Type 0 where
  pub met : AllShare P s
  pub least : (t : ℕ) → T (part_of t s) → AllShare P t → t ≡ s

pub record Says (n : ℕ) (P : ℕ → Type 0) (w : Row) : Type 0 where
  pub denied : (r : ℕ) → In w.denied r ↔ ((r < n) × NoneHas P r)
  pub opens : (s : ℕ) → Mem s w.opens ↔ LeastMet P s
  pub proved : (r : ℕ) → Mem (single r) w.opens ↔ AllHave P r
