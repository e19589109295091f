-- A whole run, on any area: what it writes and the area that it leaves depend on that area and the bytes of its input alone,
-- however they come in pieces and however often the buffer is emptied.
--     start l            before the first byte, on the area l
--     Starts r           the run r names no row, and stands before the first byte, on whatever area
--     idle               all that came in is read, and all that is to be shown is shown
--     fed_with m bs      the place m with the bytes bs to be read
--     Runs m ps t l      from m on, fed with the pieces ps, the program writes t and ends, and leaves the area l
--     InRoom room r      every buffer of the run r has that room
--     Partly m ps t      from m on, fed with pieces of ps, the program has written t so far
--     Agree              two outcomes of advance are the same to all that comes after
--     ProgramWrites      what the program writes in a run
--     ProgramLeaves      the area that a run leaves
--     ProgramRuns        every input has a run, with buffers of any room that is enough for a turn
--     Prefix             what is written so far is a beginning of what a whole run writes
--     AdvancedOne        the contract of advance allows one outcome
use Rattle.std.specs.Prelude.{◌≡◌, ℕ, ◌≤◌, Bool, true, false, not, ◌&&◌, List, [], ◌∷◌, ◌++◌, length, ◌==◌, None}
use Rattle.area.specs.Layout.{most_rows}
use Rattle.text.specs.Ascii.{lf}
use Rattle.split.specs.Split.{none, is_none, whole, held_in}
use Rattle.lines.specs.Written.{lines_write, lines_leave}
use Rattle.answers.specs.Texts.{most_text}
use Rattle.lines.specs.Run.{Place, place_of, showing, Advances, Advanced}
use Rattle.lines.specs.declared.Run.{Run}
use Rattle.lines.specs.declared.Progress.{Progress}

abbrev pub start : List ℕ → Place
start l = record { held = none; number = 1; row = most_rows; area = l; input = [] }

abbrev pub Starts : Run → Type 0
Starts r = (r.row ≡ None) × ((l : List ℕ) → place_of r l [] ≡ start l)

abbrev pub idle : Place → Bool
idle m = not (showing m) && length m.input == 0

abbrev pub fed_with : Place → List ℕ → Place
fed_with m bs = record { held = m.held; number = m.number; row = m.row; area = m.area; input = bs }

-- turns into a buffer of any room, which is then written; the next piece when idle; at the end of the input an LF for a line
-- without one
pub data Runs : Place → List (List ℕ) → List ℕ → List ℕ → Type 0 where
  writes : {m k : Place} {ps : List (List ℕ)} {t u l : List ℕ} (room : ℕ) → Advances room m k t → Runs k ps u l → Runs m ps (t ++ u) l
  reads : {m : Place} {ps : List (List ℕ)} {u l : List ℕ} (p : List ℕ) → idle m ≡ true → Runs (fed_with m p) ps u l → Runs m (p ∷ ps) u l
  closes : {m : Place} {u l : List ℕ} → idle m ≡ true → is_none m.held ≡ false → Runs (fed_with m (lf ∷ [])) [] u l → Runs m [] u l
  ends : {m : Place} → idle m ≡ true → is_none m.held ≡ true → Runs m [] [] m.area

abbrev pub InRoom : ℕ → {m : Place} {ps : List (List ℕ)} {t l : List ℕ} → Runs m ps t l → Type 0
InRoom room (writes r a u) = (r ≡ room) × InRoom room u
InRoom room (reads p e u) = InRoom room u
InRoom room (closes e n u) = InRoom room u
InRoom room (ends e n) = Unit {0}

-- a run up to any moment: between two buffers, or within one of which only the beginning t is written
pub data Partly : Place → List (List ℕ) → List ℕ → Type 0 where
  so_far : {m : Place} {ps : List (List ℕ)} → Partly m ps []
  within : {m k : Place} {ps : List (List ℕ)} {t : List ℕ} (room : ℕ) (u : List ℕ) → Advances room m k (t ++ u) → Partly m ps t
  wrote : {m k : Place} {ps : List (List ℕ)} {t u : List ℕ} (room : ℕ) → Advances room m k t → Partly k ps u → Partly m ps (t ++ u)
  read : {m : Place} {ps : List (List ℕ)} {u : List ℕ} (p : List ℕ) → idle m ≡ true → Partly (fed_with m p) ps u → Partly m (p ∷ ps) u
  closed : {m : Place} {u : List ℕ} → idle m ≡ true → is_none m.held ≡ false → Partly (fed_with m (lf ∷ [])) [] u → Partly m [] u

-- of a splitter only the line that it keeps
pub record Agree (p q : Progress) (l m e f : List ℕ) : Type 0 where
  pub area : l ≡ m
  pub buffer : e ≡ f
  pub read : p.read ≡ q.read
  pub written : p.written ≡ q.written
  pub held : held_in p.run.line ≡ held_in q.run.line
  pub number : p.run.number ≡ q.run.number
  pub row : p.run.row ≡ q.run.row

-- ---- the theorems

abbrev pub ProgramWrites : Type 0
ProgramWrites = (l : List ℕ) (ps : List (List ℕ)) (t l' : List ℕ) → Runs (start l) ps t l' → t ≡ lines_write l (whole ps)

abbrev pub ProgramLeaves : Type 0
ProgramLeaves = (l : List ℕ) (ps : List (List ℕ)) (t l' : List ℕ) → Runs (start l) ps t l' → l' ≡ lines_leave l (whole ps)

abbrev pub ProgramRuns : Type 0
ProgramRuns = (l : List ℕ) (room : ℕ) → most_text ≤ room → (ps : List (List ℕ)) → (t l' : List ℕ) × (r : Runs (start l) ps t l') × InRoom room r

abbrev pub Prefix : Type 0
Prefix = (l : List ℕ) (ps : List (List ℕ)) (t : List ℕ) → Partly (start l) ps t → (u : List ℕ) × (t ++ u ≡ lines_write l (whole ps))

abbrev pub AdvancedOne : Type 0
AdvancedOne = (r : Run) (l bs d : List ℕ) (p q : Progress) (l₁ l₂ e₁ e₂ : List ℕ)
    → Advanced r l bs d p l₁ e₁ → Advanced r l bs d q l₂ e₂ → Agree p q l₁ l₂ e₁ e₂
