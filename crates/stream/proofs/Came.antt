-- The moves of the loop make a run of `lines`, from which it follows what they wrote and what area they left. Assumes nothing.
use mathlib.Core.Path.{◌≡◌, refl, subst, subst⁻¹}
use mathlib.Core.Bool.{Bool, true, false, false≢true}
use mathlib.Core.List.{List, [], ◌∷◌, ◌++◌, append_assoc, append-nil}
use Prim.Native.Nat.{ℕ}
use Rattle.text.specs.Ascii.{lf}
use Rattle.split.specs.Split.{is_none, whole}
use Rattle.lines.specs.Written.{lines_write, lines_leave}
use Rattle.lines.specs.Run.{Place, Advances}
use Rattle.lines.specs.Program as program
use Rattle.lines.specs.Program.{start, idle, fed_with, Runs, Partly}
use Rattle.lines.proofs.Program.{program-writes}
use Rattle.lines.proofs.Left.{program-leaves}
use Rattle.lines.proofs.Runs.{prefix}
use Rattle.stream.specs.Moves.{Came, begins, writes, reads, closes}

-- where P can be carried back over each move, it can be carried back over them all
module _ (l : List ℕ) (P : Place → List (List ℕ) → List ℕ → Type 0)
    (over-writes : (m k : Place) (ps : List (List ℕ)) (t u : List ℕ) (room : ℕ) → Advances room m k t → P k ps u → P m ps (t ++ u))
    (over_reads : (m : Place) (ps : List (List ℕ)) (u p : List ℕ) → idle m ≡ true → P (fed_with m p) ps u → P m (p ∷ ps) u)
    (over-closes : (m : Place) (u : List ℕ) → idle m ≡ true → is_none m.held ≡ false → P (fed_with m (lf ∷ [])) [] u → P m [] u) where
  over-moves : {n : ℕ} {ps : List (List ℕ)} {t : List ℕ} {closed : Bool} {m : Place} → Came l n ps t closed m
      → (qs : List (List ℕ)) (u : List ℕ) → (closed ≡ true → qs ≡ []) → P m qs u → P (start l) (ps ++ qs) (t ++ u)
  over-moves begins qs u h p = p
  over-moves (writes {ps = ps} {t = t} {u = v} {m = m} {k = k} room r i a c) qs u h p =
      subst⁻¹ (P (start l) (ps ++ qs)) (append_assoc t v u) (over-moves c qs (v ++ u) h (over-writes m k qs v u room a p))
  over-moves (reads {ps = ps} {t = t} {m = m} piece s i c) qs u h p =
      subst⁻¹ (λ (x : List (List ℕ)). P (start l) x (t ++ u)) (append_assoc ps (piece ∷ []) qs)
      (over-moves c (piece ∷ qs) u (λ e. absurd (false≢true e)) (over_reads m qs u piece i p))
  over-moves (closes {ps = ps} {t = t} {m = m} i n c) qs u h p =
      subst⁻¹ (λ (x : List (List ℕ)). P (start l) (ps ++ x) (t ++ u)) (h refl)
      (over-moves c [] u (λ e. refl) (over-closes m u i n (subst (λ (x : List (List ℕ)). P (fed_with m (lf ∷ [])) x u) (h refl) p)))

  over-all : {n : ℕ} {ps : List (List ℕ)} {t : List ℕ} {closed : Bool} {m : Place} → Came l n ps t closed m → P m [] [] → P (start l) ps t
  over-all {ps = ps} {t = t} c p =
      subst (λ (x : List (List ℕ)). P (start l) x t) (append-nil ps) (subst (P (start l) (ps ++ [])) (append-nil t) (over-moves c [] [] (λ e. refl) p))

module _ {l : List ℕ} {n : ℕ} {ps : List (List ℕ)} {t : List ℕ} {closed : Bool} {m : Place} (c : Came l n ps t closed m) where
  pub came-partly : Partly (start l) ps t
  came-partly = over-all l Partly (λ m k ps t u room a r. program.wrote room a r) (λ m ps u p i r. program.read p i r) (λ m u i n r. program.closed i n r) c program.so_far

  pub came-so-far : (u : List ℕ) × (t ++ u ≡ lines_write l (whole ps))
  came-so-far = prefix l ps t came-partly

  module _ (i : idle m ≡ true) (h : is_none m.held ≡ true) where
    pub came-runs : Runs (start l) ps t m.area
    came-runs =
        over-all l (λ (k : Place) (qs : List (List ℕ)) (u : List ℕ). Runs k qs u m.area)
        (λ m k ps t u room a r. program.writes room a r) (λ m ps u p i r. program.reads p i r) (λ m u i n r. program.closes i n r) c (program.ends i h)

    pub came-all : t ≡ lines_write l (whole ps)
    came-all = program-writes l ps t m.area came-runs

    pub came-left : m.area ≡ lines_leave l (whole ps)
    came-left = program-leaves l ps t m.area came-runs
