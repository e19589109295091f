-- What `sheet` shows of an area, by its arguments.
--     whole g              what a text reads as, where nothing stands behind it
--     if_whole n r         what was read of a text of n bytes, r, where its place is the end
--     permission_in t      the permission that the argument t is
--     session_in t         the role set that the argument t is
--     Shown                what is told: the sheet's answer and its number of bytes, or which argument does not read
--     shown_by r           what the result r tells, with the number of a refusal
--     Show                 that, and the buffer afterwards
--     unread, sheeted      an argument does not read, and the buffer is as it was; the sheet's answer, its number of bytes and its buffer
--     shown_on             by what the two arguments read as
--     shown_of l works p s d    the sheet of the area l with the works' own names and the standard ones, for the arguments p and s, into the buffer d
--     Shows o r e          the result r and the buffer e are those of o
--     Refuses a            a is a number that a sheet can be refused with, where there is room for it
use Rattle.std.specs.Prelude.{◌≡◌, cond, List, [], ◌∷◌, ◌⊎◌, ℕ, leb, Option, Some, None, Result, Ok, Err}
use Rattle.written.specs.Print.{Print}
use Rattle.written.specs.Result.{number_of}
use Rattle.meaning.specs.Events.{last_permission}
use Rattle.text.specs.Number.{Got, found, bad, read_number}
use Rattle.text.specs.Set.{read_set}
use Rattle.sheet.specs.Sheet.{sheet_of}
use Rattle.wall.specs.declared.NoSheet.{NoSheet}
use Rattle.wall.specs.declared.NoSheet.TheVariants.{BadPermission, BadSet, Refused}
use Rattle.wall.specs.Standard.{standard_table}

-- ---- the arguments

unfoldable pub whole : Got → Got
whole (found v []) = found v []
whole (found v (c ∷ t)) = bad
whole bad = bad

abbrev pub if_whole : {A : Type 0} → ℕ → Option (A × ℕ) → Option (A × ℕ)
if_whole n (Some x) = cond (leb n x.1) (Some x) None
if_whole n None = None

unfoldable pub permission_in : List ℕ → Got
permission_in t = whole (read_number last_permission t)

unfoldable pub session_in : List ℕ → Got
session_in t = whole (read_set t)

-- ---- the sheet

pub data Shown : Type 0 where
  answered : ℕ → ℕ → Shown
  bad-permission : Shown
  bad-set : Shown

abbrev pub shown_by : Result ℕ NoSheet → Shown
shown_by (Ok n) = answered 0 n
shown_by (Err (Refused e)) = answered (number_of e) 0
shown_by (Err BadPermission) = bad-permission
shown_by (Err BadSet) = bad-set

pub record Show : Type 0 where
  pub told : Shown
  pub out : List ℕ

abbrev pub unread : Shown → List ℕ → Show
unread a d = record { told = a; out = d }

abbrev pub sheeted : Print → Show
sheeted o = record { told = answered o.answer o.bytes; out = o.out }

unfoldable pub shown_on : List ℕ → List ℕ → Got → Got → List ℕ → Show
shown_on l works bad s d = unread bad-permission d
shown_on l works (found p t) bad d = unread bad-set d
shown_on l works (found p t) (found s u) d = sheeted (sheet_of l works standard_table p s d)

abbrev pub shown_of : List ℕ → List ℕ → List ℕ → List ℕ → List ℕ → Show
shown_of l works p s d = shown_on l works (permission_in p) (session_in s) d

pub record Shows (o : Show) (r : Result ℕ NoSheet) (e : List ℕ) : Type 0 where
  pub told : shown_by r ≡ o.told
  pub out : e ≡ o.out

abbrev pub Refuses : ℕ → Type 0
Refuses a = (a ≡ 1) ⊎ ((a ≡ 17) ⊎ ((a ≡ 3) ⊎ (a ≡ 4)))
