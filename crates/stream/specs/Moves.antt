-- The turns of the loop as moves, one behind the other, and what has come of them when it stops.
--     most_turns         how many turns the loop takes at most
--     Came l n ps t closed m  from the start on the area l, in n moves, each with something to do, the loop has read the pieces ps,
--                        written t and come to the place m; closed: the last line has got its LF, and no piece is read behind it
--     Ran l n f l' bs    from the start on the area l, in n turns, the loop has come to the flow f, on the area l' and in the piece bs,
--                        and stops. What it wrote is a beginning of what is to be written for the pieces that it read; where it is
--                        done it wrote all of that, and l' is the area behind all their lines. Where it is neither done nor
--                        failed, n is `most_turns`, and each turn was a move. Where a write failed, the end of the text need not
--                        have gone out
use Rattle.std.specs.Prelude.{◌≡◌, Bool, true, false, List, [], ◌∷◌, ◌++◌, ℕ, suc, ◌-◌, ◌^◌, ◌≤◌, length}
use Rattle.text.specs.Ascii.{lf}
use Rattle.split.specs.Split.{is_none, whole}
use Rattle.answers.specs.Texts.{most_text}
use Rattle.lines.specs.Written.{lines_write, lines_leave}
use Rattle.lines.specs.Run.{Place, Advances}
use Rattle.lines.specs.Program.{start, idle, fed_with}
use Rattle.stream.specs.declared.Flow.{Flow}
use Rattle.stream.specs.declared.Stand.TheVariants.{Running, Done}
use Rattle.stream.specs.Turns.{place_in}

abbrev pub most_turns : ℕ
most_turns = 2 ^ 64 - 1

-- the moves of `Runs`: turns of `lines` into a buffer with room for one, while not idle; idle, the next piece, of a byte at
-- least, or an LF for a last line without one
pub data Came (l : List ℕ) : ℕ → List (List ℕ) → List ℕ → Bool → Place → Type 0 where
  begins : Came l 0 [] [] false (start l)
  writes : {n : ℕ} {ps : List (List ℕ)} {t u : List ℕ} {closed : Bool} {m k : Place} (room : ℕ) → most_text ≤ room → idle m ≡ false → Advances room m k u
      → Came l n ps t closed m → Came l (suc n) ps (t ++ u) closed k
  reads : {n : ℕ} {ps : List (List ℕ)} {t : List ℕ} {m : Place} (p : List ℕ) → 1 ≤ length p → idle m ≡ true
      → Came l n ps t false m → Came l (suc n) (ps ++ p ∷ []) t false (fed_with m p)
  closes : {n : ℕ} {ps : List (List ℕ)} {t : List ℕ} {closed : Bool} {m : Place} → idle m ≡ true → is_none m.held ≡ false
      → Came l n ps t closed m → Came l (suc n) ps t true (fed_with m (lf ∷ []))

pub record Ran (l : List ℕ) (n : ℕ) (f : Flow) (l' bs : List ℕ) : Type 0 where
  pub moves : ℕ
  pub pieces : List (List ℕ)
  pub text : List ℕ
  pub came : Came l moves pieces text f.closed (place_in f l' bs)
  pub so_far : (u : List ℕ) × (text ++ u ≡ lines_write l (whole pieces))
  pub all : f.stand ≡ Done → text ≡ lines_write l (whole pieces)
  pub left : f.stand ≡ Done → l' ≡ lines_leave l (whole pieces)
  pub early : f.stand ≡ Running → (n ≡ most_turns) × (moves ≡ n)
