-- Each turn of the code is a move, or the last. Assumes nothing.
use mathlib.Core.Path.{◌≡◌, refl, ap, ◌∙◌, subst, subst⁻¹}
use mathlib.Core.Bool.{Bool, true, false}
use mathlib.Core.List.{List, [], ◌∷◌, ◌++◌}
use Prim.Native.Nat.{ℕ, zero, suc, ◌+◌, ◌-◌, ◌≤◌}
use native.Mathlib.Omega.{arith}
use lib.ListN.{length, take, drop, set, length-set, length-take}
use Rattle.words.proofs.Runs.{drop-run}
use Rattle.text.specs.Ascii.{lf}
use Rattle.split.specs.Split.{is_none, held_in}
use Rattle.answers.specs.Texts.{most_text}
use Rattle.lines.specs.Run.{Place, place_of}
use Rattle.lines.specs.Program.{Starts, idle}
use Rattle.lines.specs.declared.Run.{Run}
use Rattle.lines.proofs.Program.{idle-read}
use Rattle.std.proofs.Common.{Ok, Err}
use Rattle.std.specs.declared.result.Result.{Result}
use Rattle.std.specs.declared.io.Error.{Error}
use Rattle.stream.specs.declared.Flow.{Flow}
use Rattle.stream.specs.declared.Stand.TheVariants.{Running, Done}
use Rattle.stream.specs.Turns.{Moved, unread, Within, Busy, place_in, fed, failed, done, Closed, AfterRead, PieceRead, stand_after, PieceAnswered, Turned}
use Rattle.stream.specs.Moves.{most_turns, Came, begins, writes, reads, closes, Ran}
use Rattle.stream.proofs.Came.{came-so-far, came-all, came-left}

-- from the start on the area l₀, in n turns, the loop has come to the flow f, on the area l and in the piece bs; while it goes on, each
-- was a move
pub record Going (l₀ : List ℕ) (n : ℕ) (f : Flow) (l bs : List ℕ) : Type 0 where
  pub moves : ℕ
  pub pieces : List (List ℕ)
  pub text : List ℕ
  pub came : Came l₀ moves pieces text f.closed (place_in f l bs)
  pub count : f.stand ≡ Running → moves ≡ n
  pub within : Within f bs
  pub answered : f.stand ≡ Done → (idle (place_in f l bs) ≡ true) × (is_none (held_in f.run.line) ≡ true)

-- before the first turn
pub start-goes : (run : Run) (l bs : List ℕ) → Starts run → Going l 0 (record { run = run; from = 0; to = 0; closed = false; stand = Running }) l bs
start-goes run l bs s = record {
  moves = 0;
  pieces = [];
  text = [];
  came = subst⁻¹ (Came l 0 [] [] false) (s.1 l) begins;
  count = λ r. refl;
  within = record { from = omega arith; to = omega arith };
  answered = λ d. absurd (cc);
}

-- where it stops
pub goes-ran : {l₀ : List ℕ} (n : ℕ) (f : Flow) (l bs : List ℕ) → (f.stand ≡ Running → n ≡ most_turns) → Going l₀ n f l bs → Ran l₀ n f l bs
goes-ran n f l bs h g = record {
  moves = g.moves;
  pieces = g.pieces;
  text = g.text;
  came = g.came;
  so_far = came-so-far g.came;
  all = λ d. let a = g.answered d in came-all g.came a.0 a.1;
  left = λ d. let a = g.answered d in came-left g.came a.0 a.1;
  early = λ r. (h r, g.count r);
}

-- ---- one turn

-- a write leaves the loop going on or failed
not-done : (z : Result (Unit {0}) Error) → ¬ (stand_after z ≡ Done)
not-done (Ok x) e = cc
not-done (Err why) e = cc

first-set : (bs : List ℕ) → 1 ≤ length bs → take 1 (set bs 0 lf) ≡ lf ∷ []
first-set [] h = absurd (omega arith)
first-set (b ∷ bs) h = refl

-- what is unread behind k more bytes
unread-rest : (a b k : ℕ) (bs : List ℕ) → k ≤ b - a → drop k (take (b - a) (drop a bs)) ≡ take (b - (a + k)) (drop (a + k) bs)
unread-rest a b k bs h =
    let fewer : b - a - k ≡ b - (a + k) = omega arith in
    drop-run (b - a) a k bs h ∙ ap (λ (i : ℕ). take i (drop (a + k) bs)) fewer

module _ {l₀ : List ℕ} (n : ℕ) (f : Flow) (l bs : List ℕ) (b : Busy f bs) (g : Going l₀ n f l bs) where
  abbrev m : Place
  m = place_in f l bs

  taken : suc g.moves ≡ n + 1
  taken = omega (arith, g.count b.running)

  module _ (i : idle m ≡ true) where
    -- nothing of the piece is unread
    at_none : (P : Place → Type 0) → P m → P (place_of f.run l [])
    at_none P = subst (λ (x : List ℕ). P (place_of f.run l x)) (idle-read m i)

    fail-goes : (given : List ℕ) → Going l₀ (n + 1) (failed f) l given
    fail-goes given = record {
      moves = g.moves;
      pieces = g.pieces;
      text = g.text;
      came = at_none (Came l₀ g.moves g.pieces g.text f.closed) g.came;
      count = λ r. absurd (cc);
      within = record { from = omega arith; to = omega arith };
      answered = λ d. absurd (cc);
    }

    done-goes : (given : List ℕ) → is_none (held_in f.run.line) ≡ true → Going l₀ (n + 1) (done f) l given
    done-goes given none = record {
      moves = g.moves;
      pieces = g.pieces;
      text = g.text;
      came = at_none (Came l₀ g.moves g.pieces g.text f.closed) g.came;
      count = λ r. absurd (cc);
      within = record { from = omega arith; to = omega arith };
      answered = λ d. (at_none (λ (k : Place). idle k ≡ true) i, none);
    }

    close-goes : (given : List ℕ) → 1 ≤ length given → is_none (held_in f.run.line) ≡ false → Going l₀ (n + 1) (fed 1 true f) l (set given 0 lf)
    close-goes given h held = record {
      moves = suc g.moves;
      pieces = g.pieces;
      text = g.text;
      came = subst⁻¹ (λ (x : List ℕ). Came l₀ (suc g.moves) g.pieces g.text true (place_of f.run l x)) (first-set given h) (closes i held g.came);
      count = λ r. taken;
      within = record { from = omega arith; to = simp length-set (omega arith) };
      answered = λ d. absurd (cc);
    }

    closed-goes : (given : List ℕ) → 1 ≤ length given → (r : Flow) (bs' : List ℕ) → Closed f given r bs' → Going l₀ (n + 1) r l bs'
    closed-goes given h r bs' c = go (is_none (held_in f.run.line)) refl
      where
        go : (t : Bool) → is_none (held_in f.run.line) ≡ t → Going l₀ (n + 1) r l bs'
        go true none = let x = c.no_line none in rw (x.0, x.1) (done-goes given none)
        go false held = let x = c.line held in rw (x.0, x.1) (close-goes given h held)

    module _ (unclosed : f.closed ≡ false) where
      feed-goes : (given : List ℕ) (k : ℕ) → suc k ≤ length given → Going l₀ (n + 1) (fed (suc k) false f) l given
      feed-goes given k h =
          let p = unread (fed (suc k) false f) given in record {
            moves = suc g.moves;
            pieces = g.pieces ++ p ∷ [];
            text = g.text;
            came = reads p (omega (arith, length-take (suc k - 0) given)) i (subst (λ (e : Bool). Came l₀ g.moves g.pieces g.text e m) unclosed g.came);
            count = λ r. taken;
            within = record { from = omega arith; to = omega arith };
            answered = λ d. absurd (cc);
          }

      read_goes : (got : Result ℕ Error) (given : List ℕ) → 1 ≤ length given → Moved (length given) got → (r : Flow) (bs' : List ℕ) → AfterRead got f given r bs' → Going l₀ (n + 1) r l bs'
      read_goes (Err why) given h v r bs' a = rw (a.0, a.1) (fail-goes given)
      read_goes (Ok zero) given h v r bs' a = closed-goes given h r bs' a
      read_goes (Ok (suc k)) given h v r bs' a = rw (a.0, a.1) (feed-goes given k v)

      reading-goes : (r : Flow) (bs' : List ℕ) → PieceRead f bs r bs' → Going l₀ (n + 1) r l bs'
      reading-goes r bs' x =
          let long = x.long in
          read_goes x.got x.given (omega (arith, b.some)) (subst⁻¹ (λ (k : ℕ). Moved k x.got) long x.moved) r bs' x.after

  answering-goes : idle m ≡ false → (d : List ℕ) → most_text ≤ length d → (r : Flow) (l' e : List ℕ) → PieceAnswered f l bs d r l' e → Going l₀ (n + 1) r l' bs
  answering-goes i d room r l' e a =
      let p = a.progress in
      let w = g.within in
      let read = a.advanced.read in
      let part = length-take (f.to - f.from) (drop f.from bs) in
      rw a.after
      (record {
        moves = suc g.moves;
        pieces = g.pieces;
        text = g.text ++ a.advanced.text;
        came = subst (λ (x : List ℕ). Came l₀ (suc g.moves) g.pieces (g.text ++ a.advanced.text) f.closed (place_of p.run l' x))
            (unread-rest f.from f.to p.read bs (omega arith)) (writes (length d) room i a.advanced.goes g.came);
        count = λ r. taken;
        within = record { from = omega arith; to = w.to };
        answered = λ d. absurd (not-done a.taken d);
      })

  pub turn-goes : (d : List ℕ) → most_text ≤ length d → (r : Flow) (l' bs' e : List ℕ) → Turned f l bs d r l' bs' e → Going l₀ (n + 1) r l' bs'
  turn-goes d room r l' bs' e t = go (idle m) refl f.closed refl
    where
      go : (b : Bool) → idle m ≡ b → (c : Bool) → f.closed ≡ c → Going l₀ (n + 1) r l' bs'
      go false i c k = let x = t.answers i in rw x.1 (answering-goes i d room r l' e x.0)
      go true i false k = let x = t.reads i k in rw x.1 (reading-goes i k r bs' x.0)
      go true i true k = let x = t.closes i k in rw x.1 (closed-goes i bs b.some r bs' x.0)
