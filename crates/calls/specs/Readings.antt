-- Rules, Readings: those marked P, a forget, and the worked case of the Paper, section 3.4. Calls about permission 5 with plain numbers, on any
-- area opened with the role count 8 in the policy state 0; sets are written by their roles.
--     deny, allow, withdraw, give, decide    the calls about permission 5; the last number of an event is the policy state that it names
--     fresh l              the area l after such an opening
--     answers cs l         what the calls answer, one after another on the area l
--     Answered cs ns       after any opening the calls are answered by the numbers ns
--     Kept cs w            after any opening the calls are all answered 0, and then w is the row of 5
--     Asks cs s r          after any opening and the calls the session s is undecided, and r is the role to ask about
--     row d os             the row with the denied set d and the open sets os
--     worked               the replies of the worked case
--     NoRowIn s p          p has no row, in a good state s
--     Readings             the readings, all of them
use Rattle.std.specs.Prelude.{◌≡◌, true, List, [], ◌∷◌, ◌++◌, map, ℕ, suc, ◌<◌, T, length}
use Rattle.roles.specs.Sets.{set_of}
use Rattle.meaning.specs.Rows.{Row, blank}
use Rattle.meaning.specs.States.{is_policy_state}
use Rattle.area.specs.State.{State, in_policy, GoodState, is_blank, row_for, state_of, area_of}
use Rattle.calls.specs.Calls.{stays, writes, valid, open_of, event_of, decide_of}
use Rattle.calls.specs.Histories.{Call, event, ask, forget, out_of, after_calls}

abbrev pub deny : List ℕ → ℕ → Call
deny s g = event 5 0 (set_of s) g

abbrev pub allow : List ℕ → ℕ → Call
allow s g = event 5 1 (set_of s) g

abbrev pub withdraw : ℕ → ℕ → Call
withdraw r g = event 5 2 r g

abbrev pub give : ℕ → ℕ → Call
give r g = event 5 3 r g

abbrev pub decide : List ℕ → Call
decide s = ask 5 (set_of s)

abbrev pub fresh : List ℕ → List ℕ
fresh l = (open_of l 8 0).area

unfoldable pub answers : List Call → List ℕ → List ℕ
answers [] l = []
answers (c ∷ cs) l = (out_of c l).answer ∷ answers cs (out_of c l).area

abbrev pub Answered : List Call → List ℕ → Type 0
Answered cs ns = (l : List ℕ) → (open_of l 8 0).answer ≡ 0 → answers cs (fresh l) ≡ ns

abbrev pub Kept : List Call → Row → Type 0
Kept cs w = Answered cs (map (λ c. 0) cs) × ((l : List ℕ) → (open_of l 8 0).answer ≡ 0 → row_for 5 (state_of (after_calls cs (fresh l))).rows ≡ w)

abbrev pub Asks : List Call → List ℕ → ℕ → Type 0
Asks cs s r = (l : List ℕ) → (open_of l 8 0).answer ≡ 0 → decide_of (after_calls cs (fresh l)) 5 (set_of s) ≡ record { answer = 12; role = r }

abbrev pub row : List ℕ → List (List ℕ) → Row
row d os = record { denied = set_of d; opens = map set_of os }

-- the Paper, section 3.4, with its r1 as role 1
abbrev pub worked : List Call
worked = deny (1 ∷ 2 ∷ []) 0 ∷ allow (2 ∷ 3 ∷ 4 ∷ []) 0 ∷ allow (4 ∷ 5 ∷ 6 ∷ []) 0 ∷ deny (4 ∷ 7 ∷ []) 0 ∷ []

pub record NoRowIn (s : State) (p : ℕ) : Type 0 where
  pub good : GoodState s
  pub permission : T (valid p)
  pub none : is_blank (row_for p s.rows) ≡ true

pub record Readings : Type 0 where
  -- without a row, on any good area: decide on - and on 0; allow on -; deny on - makes no row, also with 128 rows
  pub no-row-empty-session : (s : State) (p : ℕ) → NoRowIn s p → decide_of (area_of s) p 0 ≡ record { answer = 10; role = 64 }
  pub no-row-role-0 : (s : State) (p : ℕ) → NoRowIn s p → decide_of (area_of s) p 1 ≡ record { answer = 12; role = 0 }
  pub allow-nobody : (s : State) → GoodState s → (p : ℕ) → T (valid p) → event_of (area_of s) p 1 0 s.policy ≡ stays 6 (area_of s)
  pub deny-nobody : (s : State) (p : ℕ) → NoRowIn s p → event_of (area_of s) p 0 0 s.policy ≡ stays 0 (area_of s)
  -- with 128 rows: deny on 0 changes nothing; withdraw 0 moves the policy state, and changes no row
  pub full-deny : (s : State) (p : ℕ) → NoRowIn s p → length s.rows ≡ 128 → event_of (area_of s) p 0 1 s.policy ≡ stays 7 (area_of s)
  pub full-withdraw : (s : State) (p : ℕ) → NoRowIn s p → length s.rows ≡ 128 → s.policy < 4294967295
      → event_of (area_of s) p 2 0 (suc s.policy) ≡ writes 8 (in_policy (suc s.policy) s)
  -- in the last policy state no update counts any more
  pub last-state : (s : State) → GoodState s → s.policy ≡ 4294967295 → (p r g : ℕ) → T (valid p) → r < s.roles → T (is_policy_state g)
      → (event_of (area_of s) p 2 r g ≡ stays 13 (area_of s)) × (event_of (area_of s) p 3 r g ≡ stays 13 (area_of s))
  -- and after an opening, as the calls below
  pub no_row : Answered (decide [] ∷ decide (0 ∷ []) ∷ allow [] 0 ∷ []) (10 ∷ 12 ∷ 6 ∷ [])
  pub deny-nobody-kept : Kept (deny [] 0 ∷ []) blank
  pub lowest-asked : Asks (allow (2 ∷ 3 ∷ []) 0 ∷ []) (3 ∷ 4 ∷ []) 3
  pub withdrawn : Answered (allow (2 ∷ 3 ∷ []) 0 ∷ withdraw 2 1 ∷ decide (3 ∷ []) ∷ decide (2 ∷ []) ∷ []) (0 ∷ 0 ∷ 12 ∷ 10 ∷ [])
  pub withdrawn-asks : Asks (allow (2 ∷ 3 ∷ []) 0 ∷ withdraw 2 1 ∷ []) (3 ∷ []) 3
  pub denied-not-asked : Asks (allow (2 ∷ 3 ∷ []) 0 ∷ withdraw 2 1 ∷ []) (2 ∷ 3 ∷ []) 3
  pub denied : Answered (allow (2 ∷ 3 ∷ []) 0 ∷ deny (2 ∷ []) 0 ∷ decide (3 ∷ []) ∷ []) (0 ∷ 0 ∷ 11 ∷ [])
  pub smaller-then-larger : Kept (allow (3 ∷ []) 0 ∷ allow (3 ∷ 4 ∷ []) 0 ∷ []) (row [] ((3 ∷ []) ∷ []))
  pub larger-then-smaller : Kept (allow (3 ∷ 4 ∷ []) 0 ∷ allow (3 ∷ []) 0 ∷ []) (row [] ((3 ∷ []) ∷ []))
  pub given : Answered (deny (1 ∷ 2 ∷ []) 0 ∷ give 1 1 ∷ decide (1 ∷ []) ∷ decide (2 ∷ []) ∷ []) (0 ∷ 0 ∷ 11 ∷ 10 ∷ [])
  pub allow-then-deny : Answered (allow (2 ∷ 3 ∷ []) 0 ∷ deny (2 ∷ 3 ∷ []) 0 ∷ []) (0 ∷ 6 ∷ [])
  pub common-role : Answered (allow (1 ∷ 2 ∷ []) 0 ∷ allow (2 ∷ 3 ∷ []) 0 ∷ decide (2 ∷ []) ∷ []) (0 ∷ 0 ∷ 12 ∷ [])
  pub common-role-asks : Asks (allow (1 ∷ 2 ∷ []) 0 ∷ allow (2 ∷ 3 ∷ []) 0 ∷ []) (2 ∷ []) 2
  pub forgotten : Answered (deny (1 ∷ []) 0 ∷ forget 5 ∷ decide (1 ∷ []) ∷ []) (0 ∷ 0 ∷ 12 ∷ [])
  -- a deny worked out after a withdrawal: before it, it is ahead; behind it, it counts
  pub as-sent : Answered (allow (2 ∷ 3 ∷ []) 0 ∷ withdraw 2 1 ∷ deny (2 ∷ []) 1 ∷ decide (3 ∷ []) ∷ []) (0 ∷ 0 ∷ 0 ∷ 12 ∷ [])
  pub as-sent-asks : Asks (allow (2 ∷ 3 ∷ []) 0 ∷ withdraw 2 1 ∷ deny (2 ∷ []) 1 ∷ []) (3 ∷ []) 3
  pub overtaken : Answered (allow (2 ∷ 3 ∷ []) 0 ∷ deny (2 ∷ []) 1 ∷ withdraw 2 1 ∷ deny (2 ∷ []) 1 ∷ decide (3 ∷ []) ∷ []) (0 ∷ 14 ∷ 0 ∷ 0 ∷ 12 ∷ [])
  -- a deny worked out before a withdrawal: in time, and late
  pub in-time : Answered (allow (2 ∷ 3 ∷ []) 0 ∷ deny (2 ∷ []) 0 ∷ withdraw 2 1 ∷ decide (3 ∷ []) ∷ []) (0 ∷ 0 ∷ 0 ∷ 11 ∷ [])
  pub late : Answered (allow (2 ∷ 3 ∷ []) 0 ∷ withdraw 2 1 ∷ deny (2 ∷ []) 0 ∷ decide (3 ∷ []) ∷ []) (0 ∷ 0 ∷ 13 ∷ 12 ∷ [])
  -- an update told twice, and one lost and sent again
  pub twice : Answered (withdraw 2 1 ∷ withdraw 2 1 ∷ give 2 0 ∷ decide (2 ∷ []) ∷ []) (0 ∷ 13 ∷ 13 ∷ 10 ∷ [])
  pub lost : Answered (withdraw 2 2 ∷ give 2 1 ∷ withdraw 2 2 ∷ decide (2 ∷ []) ∷ []) (14 ∷ 0 ∷ 0 ∷ 10 ∷ [])
  -- late and ahead come before a contradiction; a forget leaves the state
  pub late-first : Answered (withdraw 2 1 ∷ allow [] 0 ∷ allow [] 2 ∷ allow [] 1 ∷ []) (0 ∷ 13 ∷ 14 ∷ 6 ∷ [])
  pub forget-stays : Answered (withdraw 2 1 ∷ forget 5 ∷ deny (1 ∷ []) 0 ∷ deny (1 ∷ []) 1 ∷ []) (0 ∷ 0 ∷ 13 ∷ 0 ∷ [])
  pub worked-row : Kept worked (row (1 ∷ 2 ∷ 4 ∷ 7 ∷ []) ((3 ∷ []) ∷ (5 ∷ 6 ∷ []) ∷ []))
  pub worked-answers : Answered (worked ++ decide (3 ∷ 4 ∷ []) ∷ decide (1 ∷ 4 ∷ 7 ∷ []) ∷ decide (1 ∷ 5 ∷ []) ∷ []) (0 ∷ 0 ∷ 0 ∷ 0 ∷ 11 ∷ 10 ∷ 12 ∷ [])
  pub worked-asks : Asks worked (1 ∷ 5 ∷ []) 5
