-- The row after a recorded trail leaves possible exactly the possible holder sets of the trail. Assumes nothing.
use mathlib.Core.Path.{◌≡◌, refl, sym, ap, ◌∙◌, subst, subst⁻¹}
use mathlib.Core.List.{List, [], ◌∷◌, ◌++◌}
use mathlib.Core.Logic.Iff
use mathlib.Core.Logic.{◌↔◌}
use Prim.Native.Nat.{ℕ}
use lib.Dec.{T}
use Rattle.roles.proofs.Laws.{shares-empty}
use Rattle.meaning.specs.Events.{agrees, after, Effect, Becomes, Reached, HolderSet, Possible, Reply}
use Rattle.meaning.specs.Rows.{Row, blank, Leaves, Good, step, row_after, Recorded}
use Rattle.meaning.proofs.Steps.{step-leaves}
use Rattle.meaning.proofs.Kept.{blank-good, step-good}
use Rattle.meaning.proofs.Answers.{recorded⇒agrees}
use Rattle.meaning.specs.declared.Happening.{Happening}
use Rattle.meaning.specs.declared.Happening.TheVariants.{Allow, Deny, Given, Withdrawn}

-- ---- from any good row

pub after-good : (n : ℕ) (w : Row) (es : List Happening) → Good n w → Recorded n w es → Good n (row_after w es)
unfolding row_after
after-good n w [] g r = g
after-good n w (e ∷ es) g r = after-good n (step e w) es (step-good n w e g r.0 (recorded⇒agrees e w r.1)) r.2

pub after-leaves : (n : ℕ) (w : Row) (es : List Happening) → Good n w → Recorded n w es → (h : ℕ)
    → Leaves n (row_after w es) h ↔ Reached (Leaves n w) es h
unfolding row_after
after-leaves n w [] g r h = ((λ m. (h, m, refl)), (λ p. subst (Leaves n w) p.2 p.1))
after-leaves n w (e ∷ es) g r h =
    let ih = after-leaves n (step e w) es (step-good n w e g r.0 (recorded⇒agrees e w r.1)) r.2 h in
    let st = step-leaves n w e g r.0 in (
      (λ m. let p = ih.0 m in let i = (st p.0).0 p.1 in (i.0, i.1, (i.2, subst (λ (x : ℕ). Becomes es x h) (sym i.3) p.2))),
      λ p. ih.1 (after e p.0, (st (after e p.0)).1 (p.0, p.1, p.2.0, refl), p.2.1),
    )

-- ---- from no row: all sets of roles below n

pub blank-leaves : (n h : ℕ) → HolderSet n h → Leaves n blank h
blank-leaves n h b = record { holder = b; denies = shares-empty h; meets = λ o m. absurd m }

pub row-leaves : (n : ℕ) (es : List Happening) → Recorded n blank es → (h : ℕ) → Leaves n (row_after blank es) h ↔ Possible n es h
row-leaves n es r h = Iff.trans (after-leaves n blank es (blank-good n) r h) (
  (λ p. (p.0, p.1.holder, p.2)),
  λ p. (p.0, blank-leaves n p.0 p.1, p.2),
)

-- ---- one event more

becomes-then : (es : List Happening) (e : Happening) (h₀ h : ℕ) → Becomes (es ++ e ∷ []) h₀ h ↔ ((g : ℕ) × Becomes es h₀ g × T (agrees e g) × (after e g ≡ h))
becomes-then [] e h₀ h = (
  (λ b. (h₀, refl, b.0, b.1)),
  λ x. subst⁻¹ (λ (g : ℕ). Becomes (e ∷ []) g h) x.1 (x.2, x.3),
)
becomes-then (f ∷ es) e h₀ h =
    let ih = becomes-then es e (after f h₀) h in (
      (λ b. let x = ih.0 b.1 in (x.0, (b.0, x.1), x.2, x.3)),
      λ x. (x.1.0, ih.1 (x.0, x.1.1, x.2, x.3)),
    )

pub possible-then : (n : ℕ) (es : List Happening) (e : Happening) (h : ℕ) → Possible n (es ++ e ∷ []) h ↔ Effect (Possible n es) e h
possible-then n es e h = (
  (λ p. let x = (becomes-then es e p.0 h).0 p.2 in (x.0, (p.0, p.1, x.1), x.2, x.3)),
  λ x. (x.1.0, x.1.1, (becomes-then es e x.1.0 h).1 (x.0, x.1.2, x.2, x.3)),
)

-- ---- replies in another order

-- a reply changes no holder set
pub reply-after : (e : Happening) → Reply e → (h : ℕ) → after e h ≡ h
unfolding after
reply-after (Allow s) r h = refl
reply-after (Deny s) r h = refl
reply-after (Given q) r h = absurd r
reply-after (Withdrawn q) r h = absurd r

-- two replies next to each other change places
pub becomes-swap : (xs ys : List Happening) (e f : Happening) → Reply e → Reply f → (h₀ h : ℕ) → Becomes (xs ++ e ∷ f ∷ ys) h₀ h → Becomes (xs ++ f ∷ e ∷ ys) h₀ h
becomes-swap [] ys e f r q h₀ h p =
    let x = reply-after e r h₀ in
    let y = reply-after f q h₀ in
    let both : after f (after e h₀) ≡ after e (after f h₀) = ap (after f) x ∙ y ∙ sym x ∙ ap (after e) (sym y) in (
      subst (λ (z : ℕ). T (agrees f z)) x p.1.0,
      (subst⁻¹ (λ (z : ℕ). T (agrees e z)) y p.0, subst (λ (z : ℕ). Becomes ys z h) both p.1.1),
    )
becomes-swap (a ∷ xs) ys e f r q h₀ h p = (p.0, becomes-swap xs ys e f r q (after a h₀) h p.1)

pub reached-swap : (P : ℕ → Type 0) (xs ys : List Happening) (e f : Happening) → Reply e → Reply f → (h : ℕ)
    → Reached P (xs ++ e ∷ f ∷ ys) h ↔ Reached P (xs ++ f ∷ e ∷ ys) h
reached-swap P xs ys e f r q h = (
  (λ p. (p.0, p.1, becomes-swap xs ys e f r q p.0 h p.2)),
  λ p. (p.0, p.1, becomes-swap xs ys f e q r p.0 h p.2),
)
