-- What an area holds: the role count, the policy state and the rows by ascending permission; and the bytes that it is written as.
--     Entry, entry, State   a permission with its row; the role count and the policy state with the rows
--     opened n g            the state just after an opening with n roles in the policy state g
--     with_rows s es, in_policy g s    s with other rows; s in the policy state g
--     is_blank w            the row says nothing
--     GoodRow, GoodRows, GoodState    the rules of a good area, as rules of what it holds
--     content, body, header           the words of an entry of the contents, of a body, of the header
--     pad n l, each f es    l in n places, zeros behind; f of each row, one after the other
--     area_of s             the bytes of a state: header, contents, bodies, zeros in what is unused
--     state_of l            the state that the bytes hold
--     words_of, held_by     the same two between a state and words
--     entry_at, entries_from    the row of number i; so many rows from it on
--     row_for p es          the row of a permission, blank where it has none
--     put p w es            the rows with w as the row of p: a blank row is no row (`one`), and p's old one goes (`past`)
--     with_row s p w        the state with w as the row of p
--     place p es            how many rows of smaller permissions come first
--     insert_at, remove_at  a row more at a place, a row less
use Rattle.std.specs.Prelude.{Bool, not, cond, ◌&&◌, List, [], ◌∷◌, ◌++◌, ℕ, zero, suc, ◌*◌, ◌≤◌, ◌<◌, T, eqb, ltb, length, take, drop, replicate}
use Rattle.words.specs.Words.{words, bytes_of}
use Rattle.roles.specs.Sets.{most_roles}
use Rattle.meaning.specs.Events.{last_permission, last_policy_state}
use Rattle.meaning.specs.Rows.{Row, blank, Good, most_opens}
use Rattle.area.specs.Layout.{most_rows, content_words, body_words, role_count, rows_used, policy_state, permission_at, denied_at, opens_at}

pub record Entry : Type 0 where
  pub permission : ℕ
  pub row : Row

pub record State : Type 0 where
  pub roles : ℕ
  pub policy : ℕ
  pub rows : List Entry

abbrev pub entry : ℕ → Row → Entry
entry p w = record { permission = p; row = w }

abbrev pub opened : ℕ → ℕ → State
opened n g = record { roles = n; policy = g; rows = [] }

abbrev pub with_rows : State → List Entry → State
with_rows s es = record { roles = s.roles; policy = s.policy; rows = es }

abbrev pub in_policy : ℕ → State → State
in_policy g s = record { roles = s.roles; policy = g; rows = s.rows }

-- ---- a good state

-- nothing denied and no open sets
abbrev pub is_blank : Row → Bool
is_blank w = eqb w.denied 0 && eqb (length w.opens) 0

pub record GoodRow (n : ℕ) (w : Row) : Type 0 where
  pub good : Good n w
  pub says : T (not (is_blank w))
  pub few : length w.opens ≤ most_opens

-- permissions strictly ascending, above `last`, and valid; each row good
abbrev pub GoodRows : ℕ → ℕ → List Entry → Type 0
GoodRows n last [] = Unit {0}
GoodRows n last (e ∷ es) = (last < e.permission) × (e.permission ≤ last_permission) × GoodRow n e.row × GoodRows n e.permission es

pub record GoodState (s : State) : Type 0 where
  pub some-roles : 1 ≤ s.roles
  pub most-roles : s.roles ≤ most_roles
  pub most-rows : length s.rows ≤ most_rows
  pub policy-small : s.policy ≤ last_policy_state
  pub good-rows : GoodRows s.roles 0 s.rows

-- ---- the bytes of a state

-- n places: those of l first, zeros behind them
unfoldable pub pad : ℕ → List ℕ → List ℕ
pad n l = take n (l ++ replicate n 0)

-- f of each row, one after the other
unfoldable pub each : (Entry → List ℕ) → List Entry → List ℕ
each f [] = []
each f (e ∷ es) = f e ++ each f es

abbrev pub content : Entry → List ℕ
content e = e.permission ∷ length e.row.opens ∷ []

abbrev pub body : Entry → List ℕ
body e = e.row.denied ∷ pad most_opens e.row.opens

abbrev pub header : State → List ℕ
header s = s.roles ∷ length s.rows ∷ s.policy ∷ []

unfoldable pub words_of : State → List ℕ
words_of s = header s ++ (pad (most_rows * content_words) (each content s.rows) ++ pad (most_rows * body_words) (each body s.rows))

unfoldable pub area_of : State → List ℕ
area_of s = bytes_of (words_of s)

-- ---- the state of bytes

abbrev pub entry_at : List ℕ → ℕ → Entry
entry_at ws i = record { permission = permission_at ws i; row = record { denied = denied_at ws i; opens = opens_at ws i } }

-- n rows from number i on
unfoldable pub entries_from : List ℕ → ℕ → ℕ → List Entry
entries_from ws i zero = []
entries_from ws i (suc n) = entry_at ws i ∷ entries_from ws (suc i) n

unfoldable pub held_by : List ℕ → State
held_by ws = record { roles = role_count ws; policy = policy_state ws; rows = entries_from ws 0 (rows_used ws) }

unfoldable pub state_of : List ℕ → State
state_of l = held_by (words l)

-- ---- rows by permission

unfoldable pub row_for : ℕ → List Entry → Row
row_for p [] = blank
row_for p (e ∷ es) = cond (eqb e.permission p) e.row (row_for p es)

-- p's row alone, and none where it is blank
unfoldable pub one : ℕ → Row → List Entry
one p w = cond (is_blank w) [] (entry p w ∷ [])

-- the rows from p on, without p's
unfoldable pub past : ℕ → List Entry → List Entry
past p [] = []
past p (e ∷ es) = cond (eqb e.permission p) es (e ∷ es)

unfoldable pub put : ℕ → Row → List Entry → List Entry
put p w [] = one p w
put p w (e ∷ es) = cond (ltb e.permission p) (e ∷ put p w es) (one p w ++ past p (e ∷ es))

unfoldable pub place : ℕ → List Entry → ℕ
place p [] = 0
place p (e ∷ es) = cond (ltb e.permission p) (suc (place p es)) 0

-- the rows with one more before the row of number i; without the row of number i
unfoldable pub insert_at : ℕ → Entry → List Entry → List Entry
insert_at i e es = take i es ++ e ∷ drop i es

unfoldable pub remove_at : ℕ → List Entry → List Entry
remove_at i es = take i es ++ drop (suc i) es

abbrev pub with_row : State → ℕ → Row → State
with_row s p w = with_rows s (put p w s.rows)
