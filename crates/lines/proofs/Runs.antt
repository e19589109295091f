-- Every input has a run; a run that is cut short has written a beginning; advance has one outcome. Assumes nothing.
use Rattle.std.proofs.Common.{◌≡◌, ℕ, zero, suc, ◌+◌, ◌-◌, ◌<◌, ◌≤◌, Bool, true, false, cond, not, ◌&&◌, ◌||◌, eqb, ltb, List, [], ◌∷◌, ◌++◌, length, sym, refl, ap, ◌∙◌, true≢false, append_assoc, arith, length-drop, lt-ltb, le-leb}
use borrow.Author.Tests.{eqb-false}
use lib.Seq.{sets}
use Rattle.text.specs.Ascii.{lf}
use Rattle.text.specs.Lines.{before_lf}
use Rattle.split.specs.Split.{Held, none, is_none, held_all, whole}
use Rattle.lines.specs.Written.{lines_write}
use Rattle.answers.specs.Texts.{most_text}
use Rattle.answers.specs.Show.{row_left}
use Rattle.lines.specs.Run.{Place, showing, row_shown, line_read, turned, turn_text, goes_on, Advances, stops, turns}
use Rattle.lines.specs.Program.{start, idle, fed_with, Runs, writes, reads, closes, ends, InRoom, Partly, so_far, within, wrote, read, closed, Prefix, ProgramRuns, AdvancedOne}
use Rattle.lines.proofs.Turns.{still_to, advances-still, advances-one}
use Rattle.lines.proofs.Steps.{effort, turn-less}
use Rattle.lines.proofs.Program.{idle-read, idle-still, fed-still, closed-still}

-- ---- one outcome

pub advanced-one : AdvancedOne
advanced-one r l bs d p q l₁ l₂ e₁ e₂ a b =
    let one = advances-one a.goes b.goes in
    let rest = ap (λ (k : Place). length k.input) one.0 in
    record {
      area = ap (λ (k : Place). k.area) one.0;
      buffer = a.wrote.bytes ∙ ap (sets d 0) one.1 ∙ sym b.wrote.bytes;
      read = omega (arith, rest, length-drop p.read bs, length-drop q.read bs);
      written = a.wrote.next ∙ ap (λ (t : List ℕ). 0 + length t) one.1 ∙ sym b.wrote.next;
      held = ap (λ (k : Place). k.held) one.0;
      number = ap (λ (k : Place). k.number) one.0;
      row = a.row ∙ ap (λ (i : ℕ). cond (ltb (length d) most_text) r.row (row_left i)) (ap (λ (k : Place). k.row) one.0) ∙ sym b.row;
    }

-- ---- a run up to any moment

partly-still : {m : Place} {ps : List (List ℕ)} {t : List ℕ} → Partly m ps t → (u : List ℕ) × (t ++ u ≡ still_to m (whole ps))
unfolding whole
partly-still {m} {ps} so_far = (still_to m (whole ps), refl)
partly-still {m} {ps} (within {k = k} {t = t} room u a) = (u ++ still_to k (whole ps), sym (append_assoc t u (still_to k (whole ps))) ∙ sym (advances-still a (whole ps)))
partly-still {m} {ps} (wrote {t = t} {u = u} room a r) =
    let s = partly-still r in
    (s.0, append_assoc t u s.0 ∙ ap (λ (x : List ℕ). t ++ x) s.1 ∙ sym (advances-still a (whole ps)))
partly-still {m} (read {ps = ps} p e r) = let s = partly-still r in (s.0, s.1 ∙ fed-still m p (whole ps) e)
partly-still {m} (closed e n r) = let s = partly-still r in (s.0, s.1 ∙ closed-still m e n)

pub prefix : Prefix
unfolding lines_write
prefix l ps t r = let s = partly-still r in (s.0, s.1 ∙ idle-still (start l) (whole ps) refl)

-- ---- turns stop somewhere

advances-most : {room : ℕ} {m k : Place} {t : List ℕ} → Advances room m k t → effort k ≤ effort m
advances-most (stops e) = omega arith
advances-most {room} {m} (turns e a) = let less = turn-less room m e in let rest = advances-most a in omega arith

advances-less : {room : ℕ} {m k : Place} {t : List ℕ} → goes_on room m ≡ true → Advances room m k t → effort k < effort m
advances-less g (stops e) = absurd (true≢false (sym g ∙ e))
advances-less {room} {m} g (turns e a) = let less = turn-less room m e in let rest = advances-most a in omega arith

advances-some : (n room : ℕ) (m : Place) → effort m < n → (k : Place) × (t : List ℕ) × Advances room m k t
advances-some zero room m h = absurd (omega arith)
advances-some (suc n) room m h = go (λ i. advances-some n (room - length (turn_text m)) (turned m) i) (goes_on room m) refl
  where
    go : (effort (turned m) < n → (k : Place) × (t : List ℕ) × Advances (room - length (turn_text m)) (turned m) k t)
        → (g : Bool) → goes_on room m ≡ g → (k : Place) × (t : List ℕ) × Advances room m k t
    go next true e = let less = turn-less room m e in let a = next (omega arith) in (a.0, turn_text m ++ a.1, turns e a.2)
    go next false e = (m, [], stops e)

advances-keep : (P : Place → Type 0) → ((m : Place) → P m → P (turned m)) → {room : ℕ} {m k : Place} {t : List ℕ} → Advances room m k t → P m → P k
advances-keep P keeps (stops e) p = p
advances-keep P keeps {m = m} (turns e a) p = advances-keep P keeps a (keeps m p)

-- ---- the LF at the end of the input

-- it is still to be read, or it is read and nothing is held
data Closing : Held → List ℕ → Type 0 where
  unread : {h : Held} → Closing h (lf ∷ [])
  was_read : Closing none []

closing-none : {h : Held} {bs : List ℕ} → Closing h bs → bs ≡ [] → is_none h ≡ true
unfolding is_none
closing-none unread e = let n = ap length e in absurd (omega arith)
closing-none was_read e = refl

read-closing : {h : Held} {bs : List ℕ} → Closing h bs → (i r : ℕ) (l : List ℕ)
    → (let k = line_read (record { held = h; number = i; row = r; area = l; input = bs }) in Closing k.held k.input)
unfolding line_read before_lf held_all
read-closing unread i r l = was_read
read-closing was_read i r l = was_read

turn-closing : (m : Place) → Closing m.held m.input → Closing (turned m).held (turned m).input
unfolding turned row_shown
turn-closing m c = go (showing m)
  where
    go : (t : Bool) → Closing (cond t (row_shown m) (line_read m)).held (cond t (row_shown m) (line_read m)).input
    go true = c
    go false = read-closing c m.number m.row m.area

-- ---- every input has a run

-- a run from m on, fed with the pieces ps, with buffers of that room
abbrev RunsIn : ℕ → Place → List (List ℕ) → Type 0
RunsIn room m ps = (t l : List ℕ) × (r : Runs m ps t l) × InRoom room r

module _ (room : ℕ) (enough : most_text ≤ room) where
  busy-goes : (m : Place) → idle m ≡ false → goes_on room m ≡ true
  unfolding goes_on
  busy-goes m e = rw (le-leb most_text room enough) (go (showing m) e)
    where
      go : (s : Bool) → (not s && eqb (length m.input) 0) ≡ false → (s || ltb 0 (length m.input)) ≡ true
      go true f = refl
      go false f = lt-ltb 0 (length m.input) (let n = eqb-false (length m.input) 0 f in omega arith)

  -- from m on it comes to an idle place, with all that turns keep
  run_on : (P : Place → Type 0) → ((m : Place) → P m → P (turned m)) → (ps : List (List ℕ)) → ((k : Place) → idle k ≡ true → P k → RunsIn room k ps)
      → (n : ℕ) (m : Place) → effort m < n → P m → RunsIn room m ps
  run_on P keeps ps rest zero m h p = absurd (omega arith)
  run_on P keeps ps rest (suc n) m h p = go (λ k i. run_on P keeps ps rest n k i) (idle m) refl
    where
      go : ((k : Place) → effort k < n → P k → RunsIn room k ps) → (i : Bool) → idle m ≡ i → RunsIn room m ps
      go next true e = rest m e p
      go next false e =
          let a = advances-some (suc (effort m)) room m (omega arith) in
          let less = advances-less (busy-goes m e) a.2 in
          let r = next a.0 (omega arith) (advances-keep P keeps a.2 p) in
          (a.1 ++ r.0, r.1, writes room a.2 r.2, (refl, r.3))

  closing-runs : (m : Place) → Closing m.held m.input → RunsIn room m []
  closing-runs m = run_on (λ (k : Place). Closing k.held k.input) turn-closing [] last (suc (effort m)) m (omega arith)
    where
      last : (k : Place) → idle k ≡ true → Closing k.held k.input → RunsIn room k []
      last k e c = ([], k.area, ends e (closing-none c (idle-read k e)), tt)

  idle-runs : (ps : List (List ℕ)) (m : Place) → idle m ≡ true → RunsIn room m ps
  idle-runs [] m e = go (is_none m.held) refl
    where
      go : (h : Bool) → is_none m.held ≡ h → RunsIn room m []
      go true n = ([], m.area, ends e n, tt)
      go false n = let r = closing-runs (fed_with m (lf ∷ [])) unread in (r.0, r.1, closes e n r.2, r.3)
  idle-runs (p ∷ ps) m e =
      let k = fed_with m p in
      let r = run_on (λ (q : Place). Unit {0}) (λ q u. u) ps (λ q i u. idle-runs ps q i) (suc (effort k)) k (omega arith) tt in
      (r.0, r.1, reads p e r.2, r.3)

pub program_runs : ProgramRuns
program_runs l room enough ps = idle-runs room enough ps (start l) refl
