-- The texts of answers and rows: their parts, and how long they are. Assumes nothing.
use mathlib.Core.Path.{◌≡◌, refl, ap}
use mathlib.Core.Bool.{Bool, cond}
use mathlib.Core.Logic.{by_cases}
use mathlib.Core.List.{List, [], ◌∷◌, ◌++◌}
use Prim.Native.Nat.{ℕ, ◌+◌, ◌*◌, ◌≤◌, ◌<◌, ◌^◌}
use native.Mathlib.Numerals.{add-one}
use native.Mathlib.Decide.{dec_lt}
use native.Mathlib.Omega.{arith}
use borrow.Author.Tests.{lt-ltb, le-ltb}
use lib.ListN.{length, drop, get_or, length-append, drop_of_length-le}
use lib.Seq.{drop-cons}
use Rattle.roles.specs.Sets.{most_roles}
use Rattle.text.specs.Ascii.{space}
use Rattle.text.specs.Number.{number_text}
use Rattle.text.specs.Set.{set_text}
use Rattle.text.proofs.Shape.{length-number, length-set-text}
use Rattle.meaning.specs.Rows.{most_opens, Decided}
use Rattle.area.specs.State.{Entry}
use Rattle.answers.specs.Texts.{most_text, role_text, answer_text, sets_of, sets_text, row_text}

-- ---- sets, one after the other

pub sets-next : (l : List ℕ) (i : ℕ) → i < length l → sets_text (drop i l) ≡ ((space ∷ []) ++ set_text (get_or l i 0)) ++ sets_text (drop (i + 1) l)
unfolding sets_text
sets-next l i h = rw (add-one, drop-cons l i 0 h) refl

pub sets_end : (l : List ℕ) (i : ℕ) → length l ≤ i → sets_text (drop i l) ≡ []
unfolding sets_text
sets_end l i h = rw (drop_of_length-le l {i = i} h) refl

-- ---- the role behind an answer

pub a-role : (r : ℕ) → r < most_roles → role_text r ≡ (space ∷ []) ++ number_text r
unfolding role_text
a-role r h = ap (λ (b : Bool). cond b ((space ∷ []) ++ number_text r) []) (lt-ltb r most_roles h)

pub no-role : (r : ℕ) → most_roles ≤ r → role_text r ≡ []
unfolding role_text
no-role r h = ap (λ (b : Bool). cond b ((space ∷ []) ++ number_text r) []) (le-ltb r most_roles h)

-- ---- lengths

length-sets-text : (l : List ℕ) → length (sets_text l) ≤ 182 * length l
unfolding sets_text
length-sets-text [] = omega arith
length-sets-text (s ∷ l) = omega (arith, length-append ((space ∷ []) ++ set_text s) (sets_text l), length-append (space ∷ []) (set_text s), length-set-text s, length-sets-text l)

pub length-row : (e : Entry) → e.permission < 2 ^ 32 → length e.row.opens ≤ most_opens → length (row_text e) ≤ most_text
unfolding row_text
length-row e p k =
    let n = length-number 9 e.permission (omega arith) in
    let few : length (sets_of e.row) ≤ 1 + most_opens = omega (arith, length-append e.row.opens (e.row.denied ∷ [])) in
    let s = length-sets-text (sets_of e.row) in
    simp length-append (omega arith)

length-role : (r : ℕ) → length (role_text r) ≤ 3
length-role r = by_cases (dec_lt r most_roles)
    (λ h. rw (a-role r h) (let n = length-number 1 r (omega arith) in omega (arith, length-append (space ∷ []) (number_text r))))
    (λ h. rw (no-role r (omega (arith, h))) (omega arith))

pub length-answer : (k : ℕ) (d : Decided) → k < 2 ^ 64 → d.answer < 2 ^ 32 → length (answer_text k d) ≤ most_text
unfolding answer_text
length-answer k d h j =
    let n = length-number 19 k (omega arith) in
    let m = length-number 9 d.answer (omega arith) in
    let r = length-role d.role in
    simp length-append (omega arith)
