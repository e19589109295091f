-- `text::digit_at` meets its contract: a byte among the digits, below or above them, or none. Assumes nothing.
use mathlib.Core.Path.{refl, sym}
use native.Mathlib.Omega.{arith}
use borrow.Author.Rules.{rules}
use Rattle.text.specs.Number.{digit_next}
use Rattle.text.proofs.NumberLaws.{digit-yes, digit-no}
use Rattle.text.proofs.Walks.{lent-first, lent-none}
use Rattle.text.proofs.digit_at.Goals as goal

pub returns-in-Some-48-to-57 : goal.returns-in-Some-48-to-57
unfolding digit_next
returns-in-Some-48-to-57 c =
    let a = c.args in
    rw (lent-first a.line.now a.at c.get.ensures.lookup c.in-Some-48-to-57.is) (sym (digit-yes _ (omega arith) (omega arith)))

pub returns-in_default : goal.returns-in_default
unfolding digit_next
returns-in_default c = let a = c.args in rw (lent-first a.line.now a.at c.get.ensures.lookup c.in_default.is) (sym (digit-no _ (λ h k. search rules)))

pub returns-in_default-2 : goal.returns-in_default-2
unfolding digit_next
returns-in_default-2 c = let a = c.args in rw (lent-first a.line.now a.at c.get.ensures.lookup c.in_default.is) (sym (digit-no _ (λ h k. search rules)))

pub returns-in_default-3 : goal.returns-in_default-3
unfolding digit_next
returns-in_default-3 c = let a = c.args in rw (lent-none a.line.now a.at c.get.ensures.lookup c.in_default.is) refl
