-- What holding two sets at once against others cites: what is no part of their union is part of neither. Assumes nothing.
use mathlib.Core.Path.{◌≡◌, refl, sym, ap, ◌∙◌, subst}
use mathlib.Core.Bool.{Bool, true, false, ◌||◌, or-true, or_assoc}
use mathlib.Core.List.{List, [], ◌∷◌, ◌++◌}
use mathlib.Core.Logic.{inl, inr, ⊎_elim}
use Prim.Native.Nat.{ℕ, ◌+◌, ◌<◌}
use lib.Dec.{T}
use lib.ListN.{length, get_or, take, drop}
use Rattle.words.proofs.Runs.{run_take}
use Rattle.roles.specs.Sets.{part_of, joined}
use Rattle.roles.proofs.Tests.{T-ext, T-or}
use Rattle.roles.proofs.Member.{in-joined, part_of-law}
use Rattle.meaning.specs.Lists.{any}
use Rattle.meaning.specs.Rows.{has_part}
use Rattle.meaning.proofs.Walks.{any-one}

-- o is part of s or of t
abbrev pub part_of_either : ℕ → ℕ → ℕ → Bool
part_of_either s t o = part_of o s || part_of o t

part-of-union : (s t o : ℕ) → T (part_of_either s t o) → T (part_of o (joined s t))
part-of-union s t o h = (part_of-law o (joined s t)).1 (λ r i. (in-joined s t r).1 (⊎_elim
    (λ k. inl ((part_of-law o s).0 k r i)) (λ k. inr ((part_of-law o t).0 k r i)) ((T-or (part_of o s) (part_of o t)).0 h)))

pub neither : (s t o : ℕ) → part_of o (joined s t) ≡ false → part_of_either s t o ≡ false
neither s t o e = T-ext (part_of_either s t o) false ((λ h. subst T e (part-of-union s t o h)), λ h. absurd h)

-- a list has a part of either exactly when it has one of s or one of t
either-parts : (s t : ℕ) (l : List ℕ) → any (part_of_either s t) l ≡ (has_part s l || has_part t l)
unfolding any has_part
either-parts s t [] = refl
either-parts s t (o ∷ l) = go (part_of o s) (part_of o t) (either-parts s t l)
  where
    go : (x y : Bool) → any (part_of_either s t) l ≡ (any (λ (x : ℕ). part_of x s) l || any (λ (x : ℕ). part_of x t) l)
        → ((x || y) || any (part_of_either s t) l) ≡ ((x || any (λ (x : ℕ). part_of x s) l) || (y || any (λ (x : ℕ). part_of x t) l))
    go true y e = refl
    go false true e = sym (or-true (any (λ (x : ℕ). part_of x s) l))
    go false false e = e

-- the i words from number `at` on, and s behind them
pub two-parts : (s t : ℕ) (ws : List ℕ) (at i : ℕ) → at + i < length ws → s ≡ get_or ws (at + i) 0
    → (any (part_of_either s t) (take i (drop at ws)) || part_of s t) ≡ (has_part s (take i (drop at ws)) || has_part t (take (i + 1) (drop at ws)))
unfolding has_part
two-parts s t ws at i b e =
    let run = take i (drop at ws) in
    ap (λ (x : Bool). x || part_of s t) (either-parts s t run)
    ∙ or_assoc (has_part s run) (has_part t run) (part_of s t)
    ∙ ap (λ (x : Bool). has_part s run || x)
    (sym (ap (has_part t) (run_take ws at i b ∙ ap (λ (x : ℕ). run ++ x ∷ []) (sym e)) ∙ any-one (λ (x : ℕ). part_of x t) run s))
