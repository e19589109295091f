-- `text::read_more` meets its contract: the digits not yet passed, behind the value so far, read as all of them. Assumes nothing.
use borrow.Author.Rules.{rules}
use mathlib.Core.Path.{◌≡◌, sym, ap, ◌∙◌}
use mathlib.Core.Bool.{false}
use mathlib.Core.List.{List}
use Prim.Native.Nat.{ℕ, ◌+◌, ◌-◌, ◌*◌, ◌≤◌}
use native.Mathlib.Omega.{arith}
use lib.ListN.{length, take, drop, get_or, length-drop}
use lib.Seq.{drop-drop}
use Rattle.std.specs.Prelude.{Some}
use Rattle.text.specs.Number.{found, digit_next, grown, read_more}
use Rattle.text.specs.Field.{number_field}
use Rattle.text.proofs.NumberLaws.{digit-yes, digit-no, more-on, more-over, more-end}
use Rattle.text.proofs.Walks.{next-cons, digit-there, digit-past, number-here, rest-range}
use Rattle.text.proofs.read_more.Goals.{in_default-via-then-c-lt48, in_default-via-else-c-lt48+else-c-lt58}
use Rattle.text.proofs.read_more.Goals as goal

-- no digit comes next, so the value so far is the number
ended : (line : List ℕ) (at limit value i : ℕ) → at ≤ length line → i ≤ length (drop at line) → read_more limit value (drop i (drop at line)) ≡ read_more limit 0 (drop at line)
    → false ≡ digit_next (drop i (drop at line)) → Some (value, at + i) ≡ number_field line (read_more limit 0 (drop at line))
ended line at limit value i h k e d =
    number-here line value (at + i) (omega (arith, length-drop at line))
    ∙ ap (number_field line) (ap (found value) (sym (drop-drop i at line)) ∙ sym (more-end limit value (drop i (drop at line)) (sym d)) ∙ e)

-- the loop goes over all that stands from the place on
module _ (line : List ℕ) (at : ℕ) where
  byte : (i : ℕ) → get_or (take (length line - at) (drop at line)) i 0 ≡ get_or (drop at line) i 0
  byte i = ap (λ (s : List ℕ). get_or s i 0) (rest-range line at)

  count : length (take (length line - at) (drop at line)) ≡ length (drop at line)
  count = ap length (rest-range line at)

pub returns-then-limit-value : goal.returns-then-limit-value
returns-then-limit-value c =
    let l = c.loop-i in
    let a = c.args in
    let s : List ℕ = drop a.at a.line.now in
    let b = byte a.line.now a.at l.i in
    let n = count a.line.now a.at in
    ap (number_field a.line.now)
    (sym (ap (read_more a.limit l.value) (next-cons s l.i (omega arith))
    ∙ more-over a.limit l.value (get_or s l.i 0) (drop (l.i + 1) s) (digit-yes _ (omega arith) (omega arith)) (omega arith))
    ∙ l.invariant.2)

pub loop-i-preserved : goal.loop-i-preserved
loop-i-preserved c =
    let l = c.loop-i in
    let a = c.args in
    let s : List ℕ = drop a.at a.line.now in
    let b = byte a.line.now a.at l.i in
    let n = count a.line.now a.at in
    let v : l.value * 10 + c.from.result ≡ grown l.value (get_or s l.i 0) = omega arith in (
      omega arith,
      omega arith,
      rw v (sym (ap (read_more a.limit l.value) (next-cons s l.i (omega arith))
          ∙ more-on a.limit l.value (get_or s l.i 0) (drop (l.i + 1) s) (digit-yes _ (omega arith) (omega arith)) (omega arith))
          ∙ l.invariant.2),
    )

pub returns-in_default : goal.returns-in_default
returns-in_default c =
    let l = c.loop-i in
    let a = c.args in
    let s : List ℕ = drop a.at a.line.now in
    let b = byte a.line.now a.at l.i in
    let n = count a.line.now a.at in
    ended a.line.now a.at a.limit l.value l.i (search rules) (omega arith) l.invariant.2
    (sym (digit-no (get_or s l.i 0) (λ h k. elim c.in_default.branch [ in_default-via-then-c-lt48 w ↦ omega arith | in_default-via-else-c-lt48+else-c-lt58 w ↦ omega arith ]))
    ∙ digit-there s l.i (omega arith))

pub returns : goal.returns
returns c =
    let l = c.loop-i in
    let a = c.args in
    let n = count a.line.now a.at in
    let e : a.at + l.i ≡ length a.line.now = omega (arith, length-drop a.at a.line.now) in
    rw (← e) (ended a.line.now a.at a.limit l.value l.i (search rules) (omega arith) l.invariant.2 (digit-past (drop a.at a.line.now) l.i (omega arith)))
