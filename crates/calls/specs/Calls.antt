-- The calls: what each answers, and the bytes of the lent area after it, as the table of Rules, Answers, reads; what decide gives.
--     Out                   an answer with the bytes afterwards
--     stays a l, writes a s the answer a, and the bytes l, or those of the state s
--     valid p               p is a permission, 1 to 4,294,967,295
--     fits_in s p w         w fits as the row of p: at most 15 open sets, and where it would be a new row, fewer than 128 are used
--     open_refusals, area_refusals    the refusals of open, those that every other call begins with
--     last_kind             kinds are 0 to this one
--     event_refusals        the refusals of an event before its row is looked at
--     settled_in l s p t    t is the answer to an event on the row of p: 0 and 8 put the row in its place, 6 and 7 leave every byte
--     event_in l p e g      an event of known roles that counts on a good area, whose policy state is then the one that it names
--     open_of, event_of, forget_of    the calls, refusals in the order 1, 2, 3, 5, 4, 13, 14, 6, then 7 or 8
--     session_refusals      the refusals of a call about a session, in the order 1, 3, 4
--     decide_of             decide: an answer and a role, 64 with each refusal; the bytes are only read
--     Look, seen d w        what decide gives, with the row that it goes by; the row is blank with a refusal and where the permission has none
--     look_of               look: decide, with that row
use Rattle.std.specs.Prelude.{Bool, not, cond, ◌&&◌, ◌||◌, List, [], ◌∷◌, ℕ, eqb, ltb, leb, length}
use Rattle.roles.specs.Sets.{all_below, part_of, most_roles}
use Rattle.refusals.specs.Refusals.{Refusal, refusal, refuse}
use Rattle.meaning.specs.declared.Happening.{Happening}
use Rattle.meaning.specs.Events.{known, last_permission}
use Rattle.meaning.specs.States.{is_late, is_ahead}
use Rattle.meaning.specs.Kinds.{happened}
use Rattle.meaning.specs.Rows.{Row, blank, fits, Settled, settle, Decided, bare, decide}
use Rattle.area.specs.Layout.{most_rows, area_bytes, good_bytes}
use Rattle.area.specs.State.{State, opened, in_policy, is_blank, row_for, with_row, state_of, area_of}

pub record Out : Type 0 where
  pub answer : ℕ
  pub area : List ℕ

abbrev pub stays : ℕ → List ℕ → Out
stays a l = record { answer = a; area = l }

abbrev pub writes : ℕ → State → Out
writes a s = record { answer = a; area = area_of s }

abbrev pub valid : ℕ → Bool
valid p = leb 1 p && leb p last_permission

unfoldable pub fits_in : State → ℕ → Row → Bool
fits_in s p w = fits w && (ltb (length s.rows) most_rows || (not (is_blank (row_for p s.rows)) || is_blank w))

-- ---- opening

abbrev pub open_refusals : List ℕ → ℕ → List Refusal
open_refusals l n = refusal 1 (not (eqb (length l) area_bytes)) ∷ refusal 2 (not (leb 1 n && leb n most_roles)) ∷ []

-- g has 32 bits wherever it comes from; a larger one would make a bad area
unfoldable pub open_of : List ℕ → ℕ → ℕ → Out
open_of l n g = refuse (open_refusals l n) (λ a. stays a l) (writes 0 (opened n g))

-- ---- the other calls begin with: bad area, no permission

abbrev pub area_refusals : List ℕ → ℕ → List Refusal → List Refusal
area_refusals l p rs = refusal 1 (not (good_bytes l)) ∷ refusal 3 (not (valid p)) ∷ rs

-- ---- events

abbrev pub last_kind : ℕ
last_kind = 3

-- a kind that is none, an unknown role, late, ahead
abbrev pub event_refusals : List ℕ → ℕ → ℕ → Happening → ℕ → List Refusal
event_refusals l p k e g =
    area_refusals l p (
    refusal 5 (not (leb k last_kind))
    ∷ refusal 4 (not (known (state_of l).roles e))
    ∷ refusal 13 (is_late e (state_of l).policy g)
    ∷ refusal 14 (is_ahead e (state_of l).policy g)
    ∷ []
    )

-- on an area l that holds s
abbrev pub settled_in : List ℕ → State → ℕ → Settled → Out
settled_in l s p t = cond (eqb t.answer 0 || eqb t.answer 8) (writes t.answer (with_row s p t.row)) (stays t.answer l)

unfoldable pub event_in : List ℕ → ℕ → Happening → ℕ → Out
event_in l p e g = let s : State = in_policy g (state_of l) in settled_in l s p (settle (fits_in s p) e (row_for p s.rows))

unfoldable pub event_of : List ℕ → ℕ → ℕ → ℕ → ℕ → Out
event_of l p k x g = refuse (event_refusals l p k (happened k x) g) (λ a. stays a l) (event_in l p (happened k x) g)

-- ---- decisions and forgetting

abbrev pub session_refusals : List ℕ → ℕ → ℕ → List Refusal
session_refusals l p s = area_refusals l p (refusal 4 (not (part_of s (all_below (state_of l).roles))) ∷ [])

unfoldable pub decide_of : List ℕ → ℕ → ℕ → Decided
decide_of l p s = refuse (area_refusals l p (refusal 4 (not (part_of s (all_below (state_of l).roles))) ∷ [])) bare (decide (row_for p (state_of l).rows) s)

pub record Look : Type 0 where
  pub decided : Decided
  pub row : Row

abbrev pub seen : Decided → Row → Look
seen d w = record { decided = d; row = w }

unfoldable pub look_of : List ℕ → ℕ → ℕ → Look
look_of l p s = let w : Row = row_for p (state_of l).rows in refuse (session_refusals l p s) (λ a. seen (bare a) blank) (seen (decide w s) w)

unfoldable pub forget_of : List ℕ → ℕ → Out
forget_of l p = refuse (area_refusals l p []) (λ a. stays a l) (writes 0 (with_row (state_of l) p blank))
