-- What numbered events mean: a reply is true in the policy state that it names, whenever it comes, and an update makes the state that it names.
--     Numbered, numbered e g    a happening with the policy state that it names
--     happenings t         the happenings of a trail
--     became t k h         the holder set of state k, where h is that of the state before: what the trail's update of that number makes of it, h if there
--                          is none
--     Changes g t f        f has a holder set for each policy state; from state g on it changes by the trail's updates alone, each at its number
--     TrueIn t f           every reply of the trail agrees with the holder set of the state that it names
--     PossibleIn n g t G   the possible holder sets of state G, where the trail starts in state g: those of some such f, whatever it has in state g
--     is_policy_state g    g is a policy state, 0 to 4,294,967,295
--     due e i              the state in which the event e counts where the present one is i: a reply in that state, an update in the next
--     is_late, is_ahead e i g    it names a state g before that one; after it
--     Timing               so a reply is late below the present state and ahead above it, an update late up to it and ahead beyond the next
--     follows g e          the number of e fits behind state g: a reply's is not below it, an update's above it
--     Timely g t G         the numbers of the trail lie between the states g and G and never fall, and that of an update is above all before it
use Rattle.std.specs.Prelude.{◌≡◌, Bool, not, cond, ◌&&◌, ◌||◌, List, [], ◌∷◌, ◌↔◌, ◌⊎◌, ℕ, suc, ◌≤◌, ◌<◌, T, eqb, leb, ltb}
use Rattle.meaning.specs.declared.Happening.{Happening}
use Rattle.meaning.specs.Events.{last_policy_state, agrees, after, is_reply, Reply, HolderSet}

pub record Numbered : Type 0 where
  pub happening : Happening
  pub state : ℕ

abbrev pub numbered : Happening → ℕ → Numbered
numbered e g = record { happening = e; state = g }

abbrev pub happenings : List Numbered → List Happening
happenings [] = []
happenings (e ∷ t) = e.happening ∷ happenings t

unfoldable pub became : List Numbered → ℕ → ℕ → ℕ
became [] k h = h
became (e ∷ t) k h = cond (not (is_reply e.happening) && eqb e.state k) (after e.happening h) (became t k h)

abbrev pub Changes : ℕ → List Numbered → (ℕ → ℕ) → Type 0
Changes g t f = (k : ℕ) → g ≤ k → f (suc k) ≡ became t (suc k) (f k)

-- an update agrees with every holder set
abbrev pub TrueIn : List Numbered → (ℕ → ℕ) → Type 0
TrueIn [] f = Unit {0}
TrueIn (e ∷ t) f = T (agrees e.happening (f e.state)) × TrueIn t f

abbrev pub PossibleIn : ℕ → ℕ → List Numbered → ℕ → ℕ → Type 0
PossibleIn n g t G h = (f : ℕ → ℕ) × HolderSet n (f g) × Changes g t f × TrueIn t f × (f G ≡ h)

-- ---- which events count

abbrev pub is_policy_state : ℕ → Bool
is_policy_state g = leb g last_policy_state

abbrev pub due : Happening → ℕ → ℕ
due e i = cond (is_reply e) i (suc i)

abbrev pub is_late : Happening → ℕ → ℕ → Bool
is_late e i g = ltb g (due e i)

-- a number that is no policy state is after them all
abbrev pub is_ahead : Happening → ℕ → ℕ → Bool
is_ahead e i g = ltb (due e i) g || not (is_policy_state g)

pub record Timing : Type 0 where
  pub reply-late : (e : Happening) → Reply e → (i g : ℕ) → T (is_late e i g) ↔ (g < i)
  pub reply-ahead : (e : Happening) → Reply e → (i g : ℕ) → T (is_ahead e i g) ↔ ((i < g) ⊎ (4294967295 < g))
  pub update-late : (e : Happening) → ¬ (Reply e) → (i g : ℕ) → T (is_late e i g) ↔ (g ≤ i)
  pub update-ahead : (e : Happening) → ¬ (Reply e) → (i g : ℕ) → T (is_ahead e i g) ↔ ((suc i < g) ⊎ (4294967295 < g))

-- ---- the numbers of a trail

abbrev pub follows : ℕ → Numbered → Bool
follows g e = cond (is_reply e.happening) (leb g e.state) (ltb g e.state)

abbrev pub Timely : ℕ → List Numbered → ℕ → Type 0
Timely g [] G = g ≤ G
Timely g (e ∷ t) G = T (follows g e) × Timely e.state t G
