-- A row: what is kept of one permission, which holder sets it leaves possible, and the steps that keep it so.
--     Row, blank           the denied set and the open sets; a permission without a row has neither
--     Leaves n w h         the row leaves the holder set h possible
--     Free l               sets that are free of parts: none is part of another; ascending
--     Good n w             the layout rules for the sets of a row; how many there may be, and that a row says something, comes with the area
--     most_opens, fits w   a row has room for 15 open sets
--     has_part s l         some set of the list is part of s
--     has_proper_part s l  some set of the list is part of s, and not s itself
--     losing s l           the sets of the list, each without s
--     apart u l            the sets of the list that share no role with u
--     shares_some s l      s shares a role with some set of the list
--     reduce l             the sets of the list that have no other of it as a proper part, each once, ascending
--     added x l            one set more: l, if one of l is part of x; else x in its place, and those go that have it as a part
--     denying, allowing, clearing, giving, withdrawing    the steps, over plain sets
--     contradicts e w      an allow on a set that is all denied, or a deny on a set of which an open set is part
--     step e w             the row after the event
--     Settled              an answer with the row afterwards
--     unchanged a w        the answer a, and the row as it was
--     forgotten            the answer 8, and the row is gone
--     overflow e w         the answer to an event whose new row does not fit: 7 full, 8 forgotten
--     settle fit e w       the answer to the event, where fit says which rows have room: 6 contradiction, 0 recorded, else `overflow`
--     row_after w es       the row after a trail
--     Recorded n w es      every event of the trail names known roles and is answered 0 when it arrives
--     Settles n e w t      t is the answer and the row exactly on their grounds
--     Decided              the answer to a session, and the role to ask about
--     bare a               the answer a, and 64, which is no role
--     undecided r          12, and the role r
--     decide w s           the answer to the session s: 10 deny, 11 allow, or 12 undecided, with the lowest role of s that is not denied
use Rattle.std.specs.Prelude.{◌≡◌, Bool, false, not, cond, ◌&&◌, List, [], ◌∷◌, map, ◌↔◌, ◌≢◌, ◌⊎◌, ℕ, ◌≤◌, ◌<◌, T, eqb, leb, length}
use Rattle.roles.specs.Sets.{most_roles, single, Below, joined, without, shares, part_of, outside}
use Rattle.meaning.specs.Events.{HolderSet, known, agrees, is_reply, Reply}
use Rattle.meaning.specs.Lists.{Mem, Ascending, any, keep, put, in_order}
use Rattle.meaning.specs.declared.Happening.{Happening}
use Rattle.meaning.specs.declared.Happening.TheVariants.{Allow, Deny, Given, Withdrawn}

-- no role of the denied set holds the permission; of each open set some role does
pub record Row : Type 0 where
  pub denied : ℕ
  pub opens : List ℕ

abbrev pub blank : Row
blank = record { denied = 0; opens = [] }

pub record Leaves (n : ℕ) (w : Row) (h : ℕ) : Type 0 where
  pub holder : HolderSet n h
  pub denies : ¬ (T (shares h w.denied))
  pub meets : (o : ℕ) → Mem o w.opens → T (shares h o)

pub record Free (l : List ℕ) : Type 0 where
  pub ascending : Ascending l
  pub no_part : (o p : ℕ) → Mem o l → Mem p l → T (part_of o p) → o ≡ p

pub record Good (n : ℕ) (w : Row) : Type 0 where
  pub denied-below : Below n w.denied
  pub below : (o : ℕ) → Mem o w.opens → Below n o
  pub nonempty : (o : ℕ) → Mem o w.opens → o ≢ 0
  pub apart-from-denied : (o : ℕ) → Mem o w.opens → ¬ (T (shares o w.denied))
  pub free : Free w.opens

abbrev pub most_opens : ℕ
most_opens = 15

unfoldable pub fits : Row → Bool
fits w = leb (length w.opens) most_opens

-- ---- lists of sets

unfoldable pub has_part : ℕ → List ℕ → Bool
has_part s l = any (λ o. part_of o s) l

unfoldable pub has_proper_part : ℕ → List ℕ → Bool
has_proper_part s l = any (λ o. part_of o s && not (eqb o s)) l

unfoldable pub losing : ℕ → List ℕ → List ℕ
losing s l = map (λ o. without o s) l

unfoldable pub apart : ℕ → List ℕ → List ℕ
apart u l = keep (λ o. not (shares o u)) l

unfoldable pub shares_some : ℕ → List ℕ → Bool
shares_some s l = any (shares s) l

unfoldable pub reduce : List ℕ → List ℕ
reduce l = in_order (keep (λ o. not (has_proper_part o l)) l)

unfoldable pub added : ℕ → List ℕ → List ℕ
added x l = cond (has_part x l) l (put x (keep (λ o. not (part_of x o)) l))

-- ---- the steps

-- the denied set gains s, every open set loses s, then reduce
unfoldable pub denying : ℕ → Row → Row
denying s w = record { denied = joined w.denied s; opens = reduce (losing s w.opens) }

-- s without the denied set becomes an open set, then reduce
unfoldable pub allowing : ℕ → Row → Row
allowing s w = record { denied = w.denied; opens = reduce (without s w.denied ∷ w.opens) }

-- u leaves the denied set, and open sets with a role of u are dropped
unfoldable pub clearing : ℕ → Row → Row
clearing u w = record { denied = without w.denied u; opens = apart u w.opens }

-- u is cleared, then j becomes an open set
unfoldable pub giving : ℕ → ℕ → Row → Row
giving j u w = allowing j (clearing u w)

-- u joins the denied set, and open sets with a role of u are dropped whole
unfoldable pub withdrawing : ℕ → Row → Row
withdrawing u w = record { denied = joined w.denied u; opens = apart u w.opens }

unfoldable pub step : Happening → Row → Row
step (Allow s) w = allowing s.bits w
step (Deny s) w = denying s.bits w
step (Given r) w = giving (single r) (single r) w
step (Withdrawn r) w = withdrawing (single r) w

unfoldable pub contradicts : Happening → Row → Bool
contradicts (Allow s) w = part_of s.bits w.denied
contradicts (Deny s) w = has_part s.bits w.opens
contradicts (Given r) w = false
contradicts (Withdrawn r) w = false

pub record Settled : Type 0 where
  pub answer : ℕ
  pub row : Row

abbrev pub unchanged : ℕ → Row → Settled
unchanged a w = record { answer = a; row = w }

abbrev pub forgotten : Settled
forgotten = record { answer = 8; row = blank }

-- a reply whose new row does not fit is 7, full; such an update is 8, forgotten
unfoldable pub overflow : Happening → Row → Settled
overflow e w = cond (is_reply e) (unchanged 7 w) forgotten

unfoldable pub settle : (Row → Bool) → Happening → Row → Settled
settle fit e w =
    cond (contradicts e w) (unchanged 6 w)
    (cond (fit (step e w)) (record { answer = 0; row = step e w }) (overflow e w))

unfoldable pub row_after : Row → List Happening → Row
row_after w [] = w
row_after w (e ∷ es) = row_after (step e w) es

abbrev pub Recorded : ℕ → Row → List Happening → Type 0
Recorded n w [] = Unit {0}
Recorded n w (e ∷ es) = T (known n e) × ((settle fits e w).answer ≡ 0) × Recorded n (step e w) es

-- what the answer to an event says, and what stands afterwards
pub record Settles (n : ℕ) (e : Happening) (w : Row) (t : Settled) : Type 0 where
  pub contradiction : (t.answer ≡ 6) ↔ ((h : ℕ) → Leaves n w h → ¬ (T (agrees e h)))
  pub full : (t.answer ≡ 7) ↔ (Reply e × T (not (contradicts e w)) × (most_opens < length (step e w).opens))
  pub forgotten : (t.answer ≡ 8) ↔ (¬ (Reply e) × (most_opens < length (step e w).opens))
  pub recorded : (t.answer ≡ 0) ↔ (T (not (contradicts e w)) × (length (step e w).opens ≤ most_opens))
  pub row-recorded : t.answer ≡ 0 → t.row ≡ step e w
  pub row-refused : (t.answer ≡ 6) ⊎ (t.answer ≡ 7) → t.row ≡ w
  pub row-forgotten : t.answer ≡ 8 → t.row ≡ blank

-- ---- decisions

pub record Decided : Type 0 where
  pub answer : ℕ
  pub role : ℕ

abbrev pub bare : ℕ → Decided
bare a = record { answer = a; role = most_roles }

abbrev pub undecided : ℕ → Decided
undecided r = record { answer = 12; role = r }

unfoldable pub decide : Row → ℕ → Decided
decide w s = cond (part_of s w.denied) (bare 10) (cond (has_part s w.opens) (bare 11) (undecided (outside s w.denied)))
