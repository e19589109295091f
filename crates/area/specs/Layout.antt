-- The lent area: its numbers, where things stand in it, and the rules of a good area. There is one good area for
-- each state (`State`), which is why equal knowledge means equal bytes.
--
--     word 0      role count n
--     word 1      rows used
--     word 2      policy state
--     word 3      +------------+-----------------+
--                 | permission | number of opens |    contents: 128 entries, the used ones first,
--                 | permission | number of opens |    permissions strictly ascending
--                 | ..         | ..              |
--     word 259    +------------+-----------------+-----------------------+
--                 | denied set | open sets in the first of 15 places     |    bodies: 128, entry i belongs to body i
--                 | denied set | open sets in the first of 15 places     |
--                 | ..         | ..                                      |
--     word 2307   +------------+-----------------------------------------+    everything unused is zero
--
--     most_rows, area_words, area_bytes    how many rows, words and bytes there are
--     role_count_at, rows_used_at, policy_state_at    where the header's words stand
--     contents_at, bodies_at               where the two parts behind it start
--     content_words, body_words            how many words an entry of the contents and a body have
--     role_count, rows_used, policy_state  the header's words
--     contents, bodies                     the two parts behind it
--     content_at, body_at                  contents entry i, body i
--     permission_at, count_at              the two words of an entry
--     denied_at, places_at, opens_at       the denied set, the 15 places, the open sets in the first of them
--     permission_before, each_below        the permission of the row before; a test holds of each number below n
--     row_rules, area_rules                the rules for a row, the area, over the area's words
--     good_row_at, good_area               all of them hold
--     good_bytes                           the bytes are a good area
use Rattle.std.specs.Prelude.{Bool, true, ◌&&◌, List, [], ◌∷◌, ℕ, zero, suc, ◌+◌, ◌*◌, eqb, ltb, leb, length, get_or, take, drop}
use Rattle.words.specs.Words.{words, all_zero}
use Rattle.roles.specs.Sets.{most_roles, all_below}
use Rattle.meaning.specs.Events.{last_permission, last_policy_state}
use Rattle.meaning.specs.Rows.{most_opens}
use Rattle.opens.specs.Opens.{all_of, places_good, says}

-- ---- the numbers

abbrev pub most_rows : ℕ
most_rows = 128

abbrev pub role_count_at : ℕ
role_count_at = 0

abbrev pub rows_used_at : ℕ
rows_used_at = 1

abbrev pub policy_state_at : ℕ
policy_state_at = 2

abbrev pub content_words : ℕ
content_words = 2

abbrev pub body_words : ℕ
body_words = 1 + most_opens

abbrev pub contents_at : ℕ
contents_at = 3

abbrev pub bodies_at : ℕ
bodies_at = contents_at + most_rows * content_words

abbrev pub area_words : ℕ
area_words = bodies_at + most_rows * body_words

abbrev pub area_bytes : ℕ
area_bytes = area_words * 8

-- ---- where things stand

abbrev pub role_count : List ℕ → ℕ
role_count ws = get_or ws role_count_at 0

abbrev pub rows_used : List ℕ → ℕ
rows_used ws = get_or ws rows_used_at 0

abbrev pub policy_state : List ℕ → ℕ
policy_state ws = get_or ws policy_state_at 0

abbrev pub contents : List ℕ → List ℕ
contents ws = take (most_rows * content_words) (drop contents_at ws)

abbrev pub bodies : List ℕ → List ℕ
bodies ws = drop bodies_at ws

abbrev pub content_at : List ℕ → ℕ → List ℕ
content_at ws i = take content_words (drop (i * content_words) (contents ws))

abbrev pub body_at : List ℕ → ℕ → List ℕ
body_at ws i = take body_words (drop (i * body_words) (bodies ws))

abbrev pub permission_at : List ℕ → ℕ → ℕ
permission_at ws i = get_or (content_at ws i) 0 0

abbrev pub count_at : List ℕ → ℕ → ℕ
count_at ws i = get_or (content_at ws i) 1 0

abbrev pub denied_at : List ℕ → ℕ → ℕ
denied_at ws i = get_or (body_at ws i) 0 0

abbrev pub places_at : List ℕ → ℕ → List ℕ
places_at ws i = drop 1 (body_at ws i)

abbrev pub opens_at : List ℕ → ℕ → List ℕ
opens_at ws i = take (count_at ws i) (places_at ws i)

-- the permission of the row before, and 0 before the first
unfoldable pub permission_before : List ℕ → ℕ → ℕ
permission_before ws zero = 0
permission_before ws (suc i) = permission_at ws i

-- ---- the rules

-- p holds of each number below n
abbrev pub each_below : ℕ → (ℕ → Bool) → Bool
each_below zero p = true
each_below (suc n) p = each_below n p && p n

-- row i: a valid permission, above the one before; at most 15 open sets; a denied set of roles below n; something denied or
-- open; good open sets, and nothing behind them
abbrev pub row_rules : List ℕ → ℕ → List Bool
row_rules ws i =
    leb (permission_at ws i) last_permission
    ∷ ltb (permission_before ws i) (permission_at ws i)
    ∷ leb (count_at ws i) most_opens
    ∷ leb (denied_at ws i) (all_below (role_count ws))
    ∷ says (denied_at ws i) (count_at ws i)
    ∷ places_good (all_below (role_count ws)) (denied_at ws i) (count_at ws i) (places_at ws i)
    ∷ []

unfoldable pub good_row_at : List ℕ → ℕ → Bool
good_row_at ws i = all_of (row_rules ws i)

-- 1 to 64 roles; at most 128 rows; a policy state of 32 bits; each used row good; nothing behind them
abbrev pub area_rules : List ℕ → List Bool
area_rules ws =
    leb 1 (role_count ws)
    ∷ leb (role_count ws) most_roles
    ∷ leb (rows_used ws) most_rows
    ∷ leb (policy_state ws) last_policy_state
    ∷ each_below (rows_used ws) (good_row_at ws)
    ∷ all_zero (drop (rows_used ws * content_words) (contents ws))
    ∷ all_zero (drop (rows_used ws * body_words) (bodies ws))
    ∷ []

unfoldable pub good_area : List ℕ → Bool
good_area ws = all_of (area_rules ws)

unfoldable pub good_bytes : List ℕ → Bool
good_bytes l = eqb (length l) area_bytes && good_area (words l)
