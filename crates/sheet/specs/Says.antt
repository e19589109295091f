-- What is proved of the sheet.
--     sheet_grounds        the grounds of the refusals, in the order 1, 17, 3, 4, 16
--     Believable n P w s   each line of the sheet of the row w for the session s is true by itself of the holder sets P: the roles after `denied` are those
--                          that none has; those after `proved` are those that all have; the sets after `open` are those of more roles than one that all
--                          meet and that have no smaller part which all meet; the verdict is the one that they force
--     Shown works standard r    role r is shown by the works' own name; where there is none, by the standard one; where there is none either, by its number
--     Sheets               any bytes and numbers get an answer on its ground, and a sheet of at most 31,250 bytes; what is written with 0 is the text of
--                          the row that a look gives, and the verdict is decide's; over every past each line is believable; each role is shown as the tables say
use Rattle.std.specs.Prelude.{◌≡◌, List, [], ◌∷◌, ◌↔◌, ◌≢◌, ◌⊎◌, ℕ, ◌^◌, ◌≤◌, ◌<◌, T, length}
use Rattle.roles.specs.Sets.{Below}
use Rattle.refusals.specs.Refusals.{Ground, ground}
use Rattle.written.specs.Grounds.{OnGrounds, text, OneText}
use Rattle.meaning.specs.Events.{Decides}
use Rattle.meaning.specs.Lists.{Mem}
use Rattle.meaning.specs.Rows.{Row, decide}
use Rattle.meaning.specs.Says.{NoneHas, AllHave, LeastMet}
use Rattle.area.specs.Layout.{good_bytes}
use Rattle.area.specs.State.{state_of}
use Rattle.calls.specs.Calls.{valid, decide_of, look_of}
use Rattle.calls.specs.Histories.{Past, area, roles, PossibleAfter}
use Rattle.text.specs.Number.{number_text}
use Rattle.names.specs.Names.{length_of, Tables, part_at}
use Rattle.names.specs.Naming.{BadTable}
use Rattle.sheet.specs.Text.{larger, denied_roles, proved_roles, open_sets, name_text, sheet_lines, sheet_text}
use Rattle.sheet.specs.Sheet.{sheet_of}

abbrev pub sheet_grounds : List ℕ → List ℕ → List ℕ → ℕ → ℕ → List ℕ → List Ground
sheet_grounds l works standard p s d =
    ground 1 (¬ (T (good_bytes l)))
    ∷ ground 17 (BadTable works ⊎ BadTable standard)
    ∷ ground 3 (¬ ((1 ≤ p) × (p ≤ 4294967295)))
    ∷ ground 4 (2 ^ (state_of l).roles ≤ s)
    ∷ ground 16 (length d < 36864)
    ∷ []

pub record Believable (n : ℕ) (P : ℕ → Type 0) (w : Row) (s : ℕ) : Type 0 where
  pub denied : (r : ℕ) → Mem r (denied_roles w) ↔ ((r < n) × NoneHas P r)
  pub proved : (r : ℕ) → Mem r (proved_roles w) ↔ AllHave P r
  pub open-sets : (o : ℕ) → Mem o (open_sets w) ↔ (T (larger o) × LeastMet P o)
  pub verdict : Decides P s (decide w s).answer

pub record Shown (works standard : List ℕ) (r : ℕ) : Type 0 where
  pub own : length_of works r ≢ 0 → name_text works standard r ≡ part_at works r
  pub other : length_of works r ≡ 0 → length_of standard r ≢ 0 → name_text works standard r ≡ part_at standard r
  pub number : length_of works r ≡ 0 → length_of standard r ≡ 0 → name_text works standard r ≡ number_text r

pub record Sheets : Type 0 where
  pub answers : (l works standard : List ℕ) (p s : ℕ) (d : List ℕ) → OnGrounds 31250 d (sheet_of l works standard p s d) (sheet_grounds l works standard p s d)
  pub written : (l works standard : List ℕ) (p s : ℕ) (d : List ℕ) → (sheet_of l works standard p s d).answer ≡ 0
      → text (sheet_of l works standard p s d) ≡ sheet_text (name_text works standard) (look_of l p s).row s
  pub verdict : (l works standard : List ℕ) (p s : ℕ) (d : List ℕ) → (sheet_of l works standard p s d).answer ≡ 0
      → sheet_text (name_text works standard) (look_of l p s).row s ≡ sheet_lines (name_text works standard) (look_of l p s).row (decide_of l p s).answer
  pub recorded : (h : Past) (works standard : List ℕ) (p s : ℕ) (d : List ℕ) → Tables works standard → T (valid p) → Below (roles h) s → 36864 ≤ length d
      → (sheet_of (area h) works standard p s d).answer ≡ 0
  pub believable : (h : Past) (p s : ℕ) → T (valid p) → Below (roles h) s → Believable (roles h) (PossibleAfter h p) (look_of (area h) p s).row s
  pub shown : (works standard : List ℕ) → Tables works standard → (r : ℕ) → r < 64 → Shown works standard r
  pub one-text : OneText
