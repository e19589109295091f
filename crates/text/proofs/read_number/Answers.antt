-- `text::read_number` meets its contract: by the first byte. Assumes nothing.
use borrow.Author.Rules.{rules}
use mathlib.Core.Path.{◌≡◌, refl, sym, ap, ◌∙◌}
use mathlib.Core.Bool.{Bool, true, false, cond}
use mathlib.Core.List.{List, [], ◌∷◌}
use Prim.Native.Nat.{ℕ, ◌+◌}
use borrow.Author.Tests.{ne_eqb}
use lib.ListN.{drop}
use Rattle.std.specs.Prelude.{None}
use Rattle.text.specs.Ascii.{digit_zero}
use Rattle.text.specs.Number.{found, bad, is_digit, digit_next, next_is, read_number}
use Rattle.text.specs.Field.{number_field}
use Rattle.text.proofs.NumberLaws.{digit-yes, digit-no, number-first, number-none, number-nothing}
use Rattle.text.proofs.Walks.{lent-first, lent-none, number-here}
use Rattle.text.proofs.read_number.Goals as goal

-- a `0`, and whether a digit comes behind it
zero-there : (limit : ℕ) (line : List ℕ) (at : ℕ) (b : Bool) → drop at line ≡ digit_zero ∷ drop (at + 1) line → digit_next (drop (at + 1) line) ≡ b
    → cond b bad (found 0 (drop (at + 1) line)) ≡ read_number limit (drop at line)
unfolding read_number next_is
zero-there limit line at b e d = rw (e, d) refl

-- no byte, or one that is no digit
none-there : (limit : ℕ) (line s : List ℕ) → s ≡ [] → None ≡ number_field line (read_number limit s)
none-there limit line s e = rw e (ap (number_field line) (sym (number-nothing limit)))

other-there : (limit : ℕ) (line s t : List ℕ) (b : ℕ) → s ≡ b ∷ t → is_digit b ≡ false → None ≡ number_field line (read_number limit s)
unfolding digit_next
other-there limit line s t b e d = ap (number_field line) (sym (number-none limit s (rw e d)))

pub returns-in_err-get : goal.returns-in_err-get
returns-in_err-get c = let a = c.args in c.from_residual.ensures ∙ none-there a.limit a.line.now _ (lent-none a.line.now a.at c.get.ensures.lookup c.in_err-get.was)

pub returns-then-digit_at : goal.returns-then-digit_at
returns-then-digit_at c =
    let a = c.args in
    ap (number_field a.line.now) (zero-there a.limit a.line.now a.at true (rw c.in-48.is at (lent-first a.line.now a.at c.get.ensures.lookup c.in_ok-get.was)) (sym c.if-digit_at.ensures))

pub returns-else-digit_at : goal.returns-else-digit_at
returns-else-digit_at c =
    let a = c.args in
    number-here a.line.now 0 (a.at + 1) (search rules)
    ∙ ap (number_field a.line.now) (zero-there a.limit a.line.now a.at false (rw c.in-48.is at (lent-first a.line.now a.at c.get.ensures.lookup c.in_ok-get.was)) (sym c.if-digit_at.ensures))

pub returns-in-49-to-57 : goal.returns-in-49-to-57
unfolding read_number next_is digit_next
returns-in-49-to-57 c =
    let a = c.args in
    c.read_more.ensures
    ∙ ap (number_field a.line.now) (sym (number-first a.limit (drop a.at a.line.now)
    (rw (lent-first a.line.now a.at c.get.ensures.lookup c.in_ok-get.was) (ne_eqb _ digit_zero (λ e. search rules)))
    (rw (lent-first a.line.now a.at c.get.ensures.lookup c.in_ok-get.was) (digit-yes _ (search rules) (search rules)))))

pub returns-in_default : goal.returns-in_default
returns-in_default c =
    let a = c.args in
    other-there a.limit a.line.now _ _ _ (lent-first a.line.now a.at c.get.ensures.lookup c.in_ok-get.was) (digit-no _ (λ h k. search rules))

pub returns-in_default-2 : goal.returns-in_default-2
returns-in_default-2 c =
    let a = c.args in
    other-there a.limit a.line.now _ _ _ (lent-first a.line.now a.at c.get.ensures.lookup c.in_ok-get.was) (digit-no _ (λ h k. search rules))
