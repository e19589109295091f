-- What this crate shows, and nothing else: each theorem with its statement, the proof a citation or a short assembly. Assumes nothing.
use mathlib.Core.Path.{◌≡◌, sym, subst}
use mathlib.Core.Bool.{not}
use mathlib.Core.List.{List, ◌∷◌, ◌++◌}
use mathlib.Core.Logic.Iff
use mathlib.Core.Logic.{◌↔◌, ◌≢◌}
use Prim.Native.Nat.{ℕ, ◌≤◌}
use native.Mathlib.Omega.{arith}
use lib.Dec.{T}
use lib.ListN.{length}
use Rattle.roles.specs.Sets.{most_roles, single, Below}
use Rattle.meaning.specs.Events.{known, agrees, Effect, Reached, HolderSet, Possible, Verdict, Decides, AskAbout, Reply}
use Rattle.meaning.specs.States.{Numbered, happenings, PossibleIn, Timing, Timely}
use Rattle.meaning.specs.Kinds.{Kinds}
use Rattle.meaning.specs.Lists.{Mem, Ascending, put}
use Rattle.meaning.specs.Rows.{Row, blank, Leaves, Free, Good, most_opens, fits, has_proper_part, apart, reduce, added, giving, contradicts, step, settle, Settles, row_after, Recorded, decide}
use Rattle.meaning.specs.Says.{Says}
use Rattle.meaning.proofs.OpenLaws as opens
use Rattle.meaning.proofs.Adding as adding
use Rattle.meaning.proofs.Steps as steps
use Rattle.meaning.proofs.Kept as kept
use Rattle.meaning.proofs.Verdicts as verdicts
use Rattle.meaning.proofs.Says as parts
use Rattle.meaning.proofs.Answers as answers
use Rattle.meaning.proofs.Trails as trails
use Rattle.meaning.proofs.States as states
use Rattle.meaning.proofs.KindLaws as kind-laws
use Rattle.meaning.proofs.Canonical as canon
use Rattle.meaning.proofs.Singles as one-role
use Rattle.meaning.specs.declared.Happening.{Happening}

-- ---- one event

-- each step changes the possible holder sets exactly as its event does
pub step-leaves : (n : ℕ) (w : Row) (e : Happening) → Good n w → T (known n e) → (h : ℕ) → Leaves n (step e w) h ↔ Effect (Leaves n w) e h
step-leaves = steps.step-leaves

-- a contradiction exactly when no possible holder set agrees
pub contradicts-law : (n : ℕ) (w : Row) (e : Happening) → Good n w → T (known n e) → T (contradicts e w) ↔ ((h : ℕ) → Leaves n w h → ¬ (T (agrees e h)))
contradicts-law = verdicts.contradicts-law

-- good rows stay good
pub step-good : (n : ℕ) (w : Row) (e : Happening) → Good n w → T (known n e) → T (not (contradicts e w)) → Good n (step e w)
step-good = kept.step-good

-- each answer exactly on its ground, with the row afterwards; that row is good, and fits where it fitted before
pub settle-law : (n : ℕ) (e : Happening) (w : Row) → Good n w → T (known n e) → Settles n e w (settle fits e w)
settle-law = answers.settle-law

pub settle-good : (n : ℕ) (e : Happening) (w : Row) → Good n w → T (known n e) → Good n (settle fits e w).row
settle-good = answers.settle-good

pub settle-fits : (e : Happening) (w : Row) → T (fits w) → T (fits (settle fits e w).row)
settle-fits = answers.settle-fits

-- on a good row {r} becomes an open set beside the others, and reducing changes nothing
pub given-opens : (n r : ℕ) (w : Row) → Good n w → (giving (single r) (single r) w).opens ≡ put (single r) (apart (single r) w.opens)
given-opens = kept.given-opens

-- ---- trails

-- the row after a recorded trail leaves possible exactly the possible holder sets of the trail
pub row-leaves : (n : ℕ) (es : List Happening) → Recorded n blank es → (h : ℕ) → Leaves n (row_after blank es) h ↔ Possible n es h
row-leaves = trails.row-leaves

-- also from any good row: what the sets that it leaves possible become
pub after-leaves : (n : ℕ) (w : Row) (es : List Happening) → Good n w → Recorded n w es → (h : ℕ) → Leaves n (row_after w es) h ↔ Reached (Leaves n w) es h
after-leaves = trails.after-leaves

pub after-good : (n : ℕ) (w : Row) (es : List Happening) → Good n w → Recorded n w es → Good n (row_after w es)
after-good = trails.after-good

-- a possible holder set is always left
pub some-possible : (n : ℕ) (es : List Happening) → Recorded n blank es → (h : ℕ) × Possible n es h
some-possible n es r =
    let w = row_after blank es in
    (verdicts.largest n w, (row-leaves n es r (verdicts.largest n w)).0 (verdicts.largest-left n w (after-good n blank es (kept.blank-good n) r)))

-- a contradiction after a trail exactly when no possible holder set agrees
pub trail-contradicts : (n : ℕ) (es : List Happening) → Recorded n blank es → (e : Happening) → T (known n e)
    → T (contradicts e (row_after blank es)) ↔ ((h : ℕ) → Possible n es h → ¬ (T (agrees e h)))
trail-contradicts n es r e k =
    let law = contradicts-law n (row_after blank es) e (after-good n blank es (kept.blank-good n) r) k in (
      (λ t h p. law.0 t h ((row-leaves n es r h).1 p)),
      λ f. law.1 (λ h m. f h ((row-leaves n es r h).0 m)),
    )

-- read by the states that its events name, a trail leaves the same holder sets possible, where its numbers are in time
pub possible-in : (n g : ℕ) (t : List Numbered) (G : ℕ) → Timely g t G → (h : ℕ) → PossibleIn n g t G h ↔ Possible n (happenings t) h
possible-in = states.possible-in

-- which events are late and which are ahead, and what the kinds say
pub timing : Timing
timing = states.timing

pub kinds : Kinds
kinds = kind-laws.kinds

-- demand 2 for one permission: 10, 11 and 12 exactly on their grounds
pub row-decides : (n : ℕ) (es : List Happening) → Recorded n blank es → (s : ℕ) → Below n s → Decides (Possible n es) s (decide (row_after blank es) s).answer
row-decides n es r s b =
    verdicts.decides-same (Leaves n (row_after blank es)) (Possible n es) s (decide (row_after blank es) s).answer (row-leaves n es r)
    (verdicts.decide-law n (row_after blank es) (after-good n blank es (kept.blank-good n) r) s b)

-- any row answers one of the three
pub one_of_three : (w : Row) (s : ℕ) → Verdict (decide w s).answer
one_of_three = verdicts.one_of_three

-- there is one such answer
pub decides-one : (P : ℕ → Type 0) (s a b : ℕ) → Decides P s a → Decides P s b → a ≡ b
decides-one = verdicts.decides-one

-- whom to ask about: with 12 the lowest role of the session that some possible holder set has
pub row-asks : (n : ℕ) (es : List Happening) → n ≤ most_roles → Recorded n blank es → (s : ℕ) → Below n s → (decide (row_after blank es) s).answer ≡ 12
    → AskAbout (Possible n es) s (decide (row_after blank es) s).role
row-asks n es few r s b u =
    verdicts.ask-same (Leaves n (row_after blank es)) (Possible n es) s (decide (row_after blank es) s).role (row-leaves n es r)
    (verdicts.ask-law n (row_after blank es) s few (after-good n blank es (kept.blank-good n) r) b u)

-- a role with 12 and with no other answer, and no number above 64
pub ask-some : (w : Row) (s : ℕ) → Below most_roles s → (decide w s).answer ≡ 12 → (decide w s).role ≢ most_roles
ask-some = verdicts.ask-some

pub ask-none : (w : Row) (s : ℕ) → (decide w s).answer ≢ 12 → (decide w s).role ≡ most_roles
ask-none = verdicts.ask-none

pub ask-most : (w : Row) (s : ℕ) → (decide w s).role ≤ most_roles
ask-most = verdicts.ask-most

-- there is one such role
pub ask-one : (P : ℕ → Type 0) (s q r : ℕ) → AskAbout P s q → AskAbout P s r → q ≡ r
ask-one = verdicts.ask-one

-- each part of a good row is true by itself: which roles no holder set has that it leaves possible, which all have, which least sets all meet
pub row-says : (n : ℕ) (w : Row) → Good n w → Says n (Leaves n w) w
row-says = parts.row-says

pub says_same : (n : ℕ) (P Q : ℕ → Type 0) (w : Row) → ((h : ℕ) → P h ↔ Q h) → Says n P w → Says n Q w
says_same = parts.says_same

-- neighbouring replies may be swapped
pub replies-swap : (n : ℕ) (xs ys : List Happening) (e f : Happening) → Reply e → Reply f → (h : ℕ) → Possible n (xs ++ e ∷ f ∷ ys) h ↔ Possible n (xs ++ f ∷ e ∷ ys) h
replies-swap n = trails.reached-swap (HolderSet n)

-- ---- one form for each meaning

-- two good rows that leave the same holder sets possible are equal
pub canonical : (n : ℕ) (v w : Row) → Good n v → Good n w → ((h : ℕ) → Leaves n v h ↔ Leaves n w h) → v ≡ w
canonical = canon.canonical

-- so two trails lead to one row exactly when they leave the same holder sets possible
pub same_row : (n : ℕ) (es fs : List Happening) → Recorded n blank es → Recorded n blank fs
    → (row_after blank es ≡ row_after blank fs) ↔ ((h : ℕ) → Possible n es h ↔ Possible n fs h)
same_row n es fs r q = (
  (λ e h. Iff.trans (Iff.symm (row-leaves n es r h)) (subst (λ (w : Row). Leaves n w h ↔ Possible n fs h) (sym e) (row-leaves n fs q h))),
  λ e. canonical n (row_after blank es) (row_after blank fs) (after-good n blank es (kept.blank-good n) r) (after-good n blank fs (kept.blank-good n) q)
      (λ h. Iff.trans (row-leaves n es r h) (Iff.trans (e h) (Iff.symm (row-leaves n fs q h)))),
)

-- and swapped replies give the same row
pub swap-row : (n : ℕ) (xs ys : List Happening) (e f : Happening) → Reply e → Reply f
    → Recorded n blank (xs ++ e ∷ f ∷ ys) → Recorded n blank (xs ++ f ∷ e ∷ ys) → row_after blank (xs ++ e ∷ f ∷ ys) ≡ row_after blank (xs ++ f ∷ e ∷ ys)
swap-row n xs ys e f r q x y = (same_row n (xs ++ e ∷ f ∷ ys) (xs ++ f ∷ e ∷ ys) x y).1 (replies-swap n xs ys e f r q)

-- reduce keeps exactly the sets of which no other is a proper part, each once, ascending
pub reduce-law : (l : List ℕ) (x : ℕ) → Mem x (reduce l) ↔ (Mem x l × T (not (has_proper_part x l)))
reduce-law = opens.reduce-law

pub reduce-ascending : (l : List ℕ) → Ascending (reduce l)
reduce-ascending = opens.reduce-ascending

-- sets of which none is part of another are left as they are, and of one set more only that one need be held against each
pub free-reduced : (l : List ℕ) → Free l → reduce l ≡ l
free-reduced = opens.free-reduced

pub reduce-one : (x : ℕ) (l : List ℕ) → Free l → reduce (x ∷ l) ≡ added x l
reduce-one = adding.reduce-one

-- ---- examples

-- a good row with 15 open sets
pub full-row : (w : Row) × Good 16 w × (length w.opens ≡ 15) × T (fits w)
unfolding fits one-role.singles
full-row = (record { denied = 0; opens = one-role.singles 0 most_opens }, one-role.singles-good 16 most_opens (omega arith), one-role.length-singles 0 most_opens, tt)
