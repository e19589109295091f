-- The sheet's text part by part, as the code writes it. Assumes nothing.
use mathlib.Core.Path.{◌≡◌, refl, sym, ap, ◌∙◌}
use mathlib.Core.Bool.{Bool, true, false, not, cond}
use mathlib.Core.List.{List, [], ◌∷◌, ◌++◌, append_assoc}
use Prim.Native.Nat.{ℕ, zero, suc, ◌+◌, ◌/◌, ◌%◌, ◌^◌, ◌≤◌, ◌<◌}
use native.Mathlib.Nat.{div-div-eq-div-mul, div-eq_of_lt, div-one, pow-suc, mod-lt, zero-add, suc-add, add-suc}
use native.Mathlib.Numerals.{add-one}
use native.Mathlib.Omega.{arith}
use borrow.Author.Tests.{eq-eqb, ne_eqb}
use lib.Count.{ones, ones_step}
use lib.Dec.{eqb}
use lib.ListN.{length, length-append, drop, get_or, drop_of_length-le}
use lib.Seq.{drop-cons}
use Rattle.roles.specs.Sets.{most_roles, has, roles_from, roles_of}
use Rattle.meaning.specs.Lists.{keep}
use Rattle.meaning.specs.Rows.{Row}
use Rattle.text.specs.Ascii.{space, lf}
use Rattle.text.specs.Number.{number_text}
use Rattle.names.specs.Names.{name_of}
use Rattle.sheet.specs.Text.{denied_word, proved_word, open_word, verdict_word, alone, larger, roles_of_all, denied_roles, proved_roles, open_sets, name_text, names_text, parting, parted_text, answer_word, deny_word, line, sheet_lines}

-- ---- a role

module _ (works standard : List ℕ) (r : ℕ) (p : List ℕ) (e : p ≡ name_of works standard r) where
  pub named-nowhere : length p ≡ 0 → name_text works standard r ≡ number_text r
  unfolding name_text
  named-nowhere z = rw (eq-eqb (length (name_of works standard r)) 0 (sym (ap length e) ∙ z)) refl

  pub named : (length p ≡ 0 → ⊥) → name_text works standard r ≡ p
  unfolding name_text
  named z = rw (ne_eqb (length (name_of works standard r)) 0 (λ q. z (ap length e ∙ q))) (sym e)

-- ---- roles, one behind the other

module _ (f : ℕ → List ℕ) where
  pub names-append : (a b : List ℕ) → names_text f (a ++ b) ≡ names_text f a ++ names_text f b
  unfolding names_text
  names-append [] b = refl
  names-append (r ∷ a) b = ap (λ (t : List ℕ). (space ∷ f r) ++ t) (names-append a b) ∙ sym (append_assoc (space ∷ f r) (names_text f a) (names_text f b))

  pub names-none : names_text f [] ≡ []
  unfolding names_text
  names-none = refl

  pub names-next : {r : ℕ} {l m : List ℕ} → l ≡ r ∷ m → names_text f l ≡ (space ∷ f r) ++ names_text f m
  unfolding names_text
  names-next e = ap (names_text f) e

  pub names-end : {l : List ℕ} → l ≡ [] → names_text f l ≡ []
  names-end e = ap (names_text f) e ∙ names-none

-- ---- a set of one role

ones_none : ones 0 ≡ 0
unfolding ones
ones_none = refl

count-digit : (k r s x : ℕ) → x ≡ s / 2 ^ r → length (roles_from k (suc r) s) ≡ ones (x / 2) → length (roles_from (suc k) r s) ≡ x % 2 + ones (x / 2)
unfolding roles_from has
count-digit k r s x e i = go (x % 2) refl (mod-lt x (omega arith))
  where
    go : (d : ℕ) → x % 2 ≡ d → d < 2
        → length (cond (eqb (s / 2 ^ r % 2) 1) (r ∷ roles_from k (suc r) s) (roles_from k (suc r) s)) ≡ x % 2 + ones (x / 2)
    go zero q b = rw (← e, q, i) (omega arith)
    go (suc zero) q b = rw (← e, q, i) (omega arith)
    go (suc (suc d)) q b = absurd (omega arith)

halved : (s r : ℕ) → s / 2 ^ suc r ≡ s / 2 ^ r / 2
halved s r = ap (λ (x : ℕ). s / x) (pow-suc 2 r) ∙ sym (div-div-eq-div-mul s (2 ^ r) 2)

count-from : (k r s : ℕ) → s < 2 ^ (k + r) → length (roles_from k r s) ≡ ones (s / 2 ^ r)
unfolding roles_from
count-from zero r s h = let b : s < 2 ^ r = rw (← zero-add r) h in rw (div-eq_of_lt b) (sym ones_none)
count-from (suc k) r s h =
    let b : s < 2 ^ (k + suc r) = rw (add-suc k r, ← suc-add k r) h in
    count-digit k r s (s / 2 ^ r) refl (count-from k (suc r) s b ∙ ap ones (halved s r)) ∙ sym (ones_step (s / 2 ^ r))

pub alone-is : (s : ℕ) → s < 2 ^ most_roles → eqb (ones s) 1 ≡ alone s
unfolding alone roles_of
alone-is s h = ap (λ (n : ℕ). eqb n 1) (sym (count-from most_roles 0 s h ∙ ap ones (div-one s)))

-- ---- the open sets

-- the next set passes the test, or it does not
module _ (p : ℕ → Bool) (l : List ℕ) (i : ℕ) where
  keep-yes : i < length l → p (get_or l i 0) ≡ true → keep p (drop i l) ≡ get_or l i 0 ∷ keep p (drop (i + 1) l)
  unfolding keep
  keep-yes h e = rw (add-one, drop-cons l i 0 h, e) refl

  keep-no : i < length l → p (get_or l i 0) ≡ false → keep p (drop i l) ≡ keep p (drop (i + 1) l)
  unfolding keep
  keep-no h e = rw (add-one, drop-cons l i 0 h, e) refl

  keep-end : length l ≤ i → keep p (drop i l) ≡ []
  unfolding keep
  keep-end h = rw (drop_of_length-le l {i = i} h) refl

-- what is left of a line of sets from number i on
abbrev pub proved_from : (ℕ → List ℕ) → List ℕ → ℕ → List ℕ
proved_from f l i = names_text f (roles_of_all (keep alone (drop i l)))

abbrev pub open_from : (ℕ → List ℕ) → Bool → List ℕ → ℕ → List ℕ
open_from f later l i = parted_text f later (keep larger (drop i l))

module _ (f : ℕ → List ℕ) (l : List ℕ) (i : ℕ) where
  pub proved-one : i < length l → alone (get_or l i 0) ≡ true → proved_from f l i ≡ names_text f (roles_of (get_or l i 0)) ++ proved_from f l (i + 1)
  unfolding roles_of_all
  proved-one h e = rw (keep-yes alone l i h e) (names-append f (roles_of (get_or l i 0)) (roles_of_all (keep alone (drop (i + 1) l))))

  pub proved-other : i < length l → alone (get_or l i 0) ≡ false → proved_from f l i ≡ proved_from f l (i + 1)
  proved-other h e = rw (keep-no alone l i h e) refl

  pub proved-end : length l ≤ i → proved_from f l i ≡ []
  unfolding roles_of_all
  proved-end h = rw (keep-end alone l i h) (names-none f)

  module _ (later : Bool) where
    pub open-one : i < length l → alone (get_or l i 0) ≡ false → open_from f later l i ≡ (parting later ++ names_text f (roles_of (get_or l i 0))) ++ open_from f true l (i + 1)
    unfolding parted_text
    open-one h e = rw (keep-yes larger l i h (ap not e)) refl

    pub open-other : i < length l → alone (get_or l i 0) ≡ true → open_from f later l i ≡ open_from f later l (i + 1)
    open-other h e = rw (keep-no larger l i h (ap not e)) refl

    pub open-end : length l ≤ i → open_from f later l i ≡ []
    unfolding parted_text
    open-end h = rw (keep-end larger l i h) refl

-- ---- the whole sheet, one text behind the other

abbrev pub answer_text : ℕ → List ℕ
answer_text v = (space ∷ answer_word v) ++ lf ∷ []

pub answer-deny : (v : ℕ) → v ≡ 10 → answer_text v ≡ (space ∷ deny_word) ++ lf ∷ []
answer-deny v e = rw e refl

-- the LF of a line stands before what follows it
line-then : (word t u : List ℕ) → line word t ++ u ≡ word ++ (t ++ (lf ∷ u))
line-then word t u = append_assoc (word ++ t) (lf ∷ []) u ∙ append_assoc word t (lf ∷ u)

module _ (f : ℕ → List ℕ) (w : Row) (v : ℕ) where
  abbrev pub from_verdict : List ℕ
  from_verdict = (lf ∷ verdict_word) ++ answer_text v

  abbrev pub from_sets : List ℕ
  from_sets = parted_text f false (open_sets w) ++ from_verdict

  abbrev pub from_open : List ℕ
  from_open = (lf ∷ open_word) ++ from_sets

  abbrev pub from_alone : List ℕ
  from_alone = names_text f (proved_roles w) ++ from_open

  abbrev pub from_proved : List ℕ
  from_proved = (lf ∷ proved_word) ++ from_alone

  abbrev pub from_roles : List ℕ
  from_roles = names_text f (denied_roles w) ++ from_proved

  abbrev line₁ : List ℕ
  line₁ = line denied_word (names_text f (denied_roles w))

  abbrev line₂ : List ℕ
  line₂ = line proved_word (names_text f (proved_roles w))

  abbrev line₃ : List ℕ
  line₃ = line open_word (parted_text f false (open_sets w))

  abbrev line₄ : List ℕ
  line₄ = line verdict_word (space ∷ answer_word v)

  pub sheet-parts : sheet_lines f w v ≡ denied_word ++ from_roles
  unfolding sheet_lines
  sheet-parts =
      append_assoc (line₁ ++ line₂) line₃ line₄
      ∙ append_assoc line₁ line₂ (line₃ ++ line₄)
      ∙ line-then denied_word (names_text f (denied_roles w)) (line₂ ++ (line₃ ++ line₄))
      ∙ ap (λ (x : List ℕ). denied_word ++ (names_text f (denied_roles w) ++ (lf ∷ x)))
      (line-then proved_word (names_text f (proved_roles w)) (line₃ ++ line₄)
      ∙ ap (λ (x : List ℕ). proved_word ++ (names_text f (proved_roles w) ++ (lf ∷ x))) (line-then open_word (parted_text f false (open_sets w)) line₄))

  -- the bytes of its parts, as room is found for each
  pub length-parts : length (sheet_lines f w v) ≡ 6 + (length (names_text f (denied_roles w)) + (7 + (length (names_text f (proved_roles w)) + (5 + (length (parted_text f false (open_sets w)) + (8 + length (answer_text v)))))))
  length-parts = rw sheet-parts (simp length-append (omega arith))
