-- Lines cut out of bytes, and what each reads as. Assumes nothing.
use mathlib.Core.Path.{◌≡◌, refl, sym, ap, ◌∙◌}
use mathlib.Core.Bool.{Bool, true, false, cond, ◌&&◌, false≢true}
use mathlib.Core.List.{List, [], ◌∷◌, ◌++◌, append_assoc}
use Prim.Native.Nat.{ℕ, suc, ◌+◌, ◌-◌, ◌≤◌, ◌<◌}
use native.Mathlib.Omega.{arith}
use borrow.Author.Tests.{ne_eqb, le-leb, leb-true, eqb-false}
use lib.Dec.{eqb, leb}
use lib.ListN.{length, take, drop, length-append, length-drop}
use lib.Seq.{drop-drop, drop_at}
use Rattle.std.specs.Prelude.{Some}
use Rattle.roles.specs.Sets.{most_roles, last_role}
use Rattle.text.specs.Ascii.{space, lf, Lacks}
use Rattle.text.specs.Lines.{before_lf}
use Rattle.text.specs.Number.{number_text, Got, found, bad, is_digit, digit_next, next_is, read_number}
use Rattle.text.specs.Field.{number_field}
use Rattle.text.proofs.NumberLaws.{next-is, bad≢found, number-only, number-back}
use Rattle.text.proofs.Walks.{NumberThere, field-there}
use Rattle.names.specs.Names.{most_name}
use Rattle.listing.specs.Listing.{in_front, list_lines, is_name, name_behind, read_line}

-- ---- the first line, and those behind it

pub record FirstLine (s : List ℕ) (n : ℕ) : Type 0 where
  pub inside : n ≤ length s
  pub first : list_lines s ≡ take n s ∷ list_lines (drop (suc n) s)

front-line : (b : ℕ) (s : List ℕ) → (0 < length s → FirstLine s (before_lf s)) → (b ≡ lf → ⊥) → FirstLine (b ∷ s) (suc (before_lf s))
unfolding list_lines in_front before_lf
front-line b [] f n = record { inside = omega arith; first = rw (ne_eqb b lf n) refl }
front-line b (c ∷ s) f n =
    let p = f (omega arith) in
    let i = p.inside in
    record { inside = omega arith; first = rw (ne_eqb b lf n) (ap (in_front b) p.first) }

pub first-line : (s : List ℕ) → 0 < length s → FirstLine s (before_lf s)
unfolding list_lines before_lf
first-line [] h = absurd (omega arith)
first-line (b ∷ s) h = go (eqb b lf) refl (front-line b s (first-line s))
  where
    go : (t : Bool) → eqb b lf ≡ t → ((b ≡ lf → ⊥) → FirstLine (b ∷ s) (suc (before_lf s))) → FirstLine (b ∷ s) (cond t 0 (suc (before_lf s)))
    go true e f = record { inside = omega arith; first = rw e refl }
    go false e f = f (eqb-false b lf e)

-- ---- each line in turn

pub lines_none : list_lines [] ≡ []
unfolding list_lines
lines_none = refl

pub lines_cut : (t s : List ℕ) → Lacks lf t → list_lines (t ++ lf ∷ s) ≡ t ∷ list_lines s
unfolding list_lines in_front
lines_cut [] s k = refl
lines_cut (b ∷ t) s k = rw (ne_eqb b lf k.0) (ap (in_front b) (lines_cut t s k.1))

pub lines-last : (t : List ℕ) → Lacks lf t → 1 ≤ length t → list_lines t ≡ t ∷ []
unfolding list_lines in_front
lines-last [] k h = absurd (omega arith)
lines-last (b ∷ []) k h = rw (ne_eqb b lf k.0) refl
lines-last (b ∷ c ∷ t) k h = rw (ne_eqb b lf k.0) (ap (in_front b) (lines-last (c ∷ t) k.1 (omega arith)))

-- ---- what a line reads as

-- a line is the text of its role, a space and its name
pub record Reads (l : List ℕ) (r : ℕ) (n : List ℕ) : Type 0 where
  pub same : l ≡ number_text r ++ space ∷ n
  pub role : r < most_roles
  pub some : 1 ≤ length n
  pub short : length n ≤ most_name

name-length : (n : List ℕ) → is_name n ≡ true → (1 ≤ length n) × (length n ≤ most_name)
unfolding is_name
name-length n e = go (leb 1 (length n)) refl (leb (length n) most_name) refl e
  where
    go : (a : Bool) → leb 1 (length n) ≡ a → (b : Bool) → leb (length n) most_name ≡ b → (a && b) ≡ true → (1 ≤ length n) × (length n ≤ most_name)
    go true p true q t = (leb-true 1 (length n) p, leb-true (length n) most_name q)
    go true p false q t = absurd (false≢true t)
    go false p b q t = absurd (false≢true t)

name-is : (n : List ℕ) → 1 ≤ length n → length n ≤ most_name → is_name n ≡ true
unfolding is_name
name-is n h k = rw (le-leb 1 (length n) h, le-leb (length n) most_name k) refl

pub reads_only : (l : List ℕ) (r : ℕ) (n : List ℕ) → read_line l ≡ found r n → Reads l r n
unfolding read_line name_behind
reads_only l r n e = go (read_number last_role l) refl e
  where
    behind : (q : ℕ) (t : List ℕ) → read_number last_role l ≡ found q t → (a : Bool) → next_is space t ≡ a → (b : Bool) → is_name (drop 1 t) ≡ b
        → cond (a && b) (found q (drop 1 t)) bad ≡ found r n → Reads l r n
    behind q t p true x true y z =
        let i : q ≡ r = cc in
        let j : drop 1 t ≡ n = cc in
        let o = number-only last_role l q t p in
        let k = o.small in
        let m = name-length (drop 1 t) y in
        record {
          same = o.same ∙ rw (next-is space t x, i, j) refl;
          role = omega arith;
          some = rw (← j) m.0;
          short = rw (← j) m.1;
        }
    behind q t p true x false y z = absurd (bad≢found z)
    behind q t p false x b y z = absurd (bad≢found z)

    go : (g : Got) → read_number last_role l ≡ g → name_behind g ≡ found r n → Reads l r n
    go (found q t) p z = behind q t p (next_is space t) refl (is_name (drop 1 t)) refl z
    go bad p z = absurd (bad≢found z)

pub reads-back : (l : List ℕ) (r : ℕ) (n : List ℕ) → Reads l r n → read_line l ≡ found r n
unfolding read_line name_behind next_is digit_next is_digit
reads-back l r n p =
    let h = p.role in
    ap name_behind (ap (read_number last_role) p.same ∙ number-back last_role r (space ∷ n) (omega arith) refl)
    ∙ rw (name-is n p.some p.short) refl

-- ---- as the code reads it

pub line-bad : (line : List ℕ) → read_number last_role line ≡ bad → read_line line ≡ bad
unfolding read_line name_behind
line-bad line e = rw e refl

module _ {line : List ℕ} {r i : ℕ} (t : NumberThere last_role line 0 r i) where
  pub line-unspaced : next_is space (drop i line) ≡ false → read_line line ≡ bad
  unfolding read_line name_behind
  line-unspaced e = rw (t.reads, e) refl

  pub line-spaced : (b : Bool) → next_is space (drop i line) ≡ true → b ≡ (leb 1 (length line - (i + 1)) && leb (length line - (i + 1)) most_name)
      → read_line line ≡ cond b (found r (drop (i + 1) line)) bad
  unfolding read_line name_behind is_name
  line-spaced b e m = rw (t.reads, e, drop-drop 1 i line, length-drop (i + 1) line, m) refl

-- what an answer of `read_line` says of the bytes
pub record LineThere (line : List ℕ) (r i : ℕ) : Type 0 where
  pub reads : read_line line ≡ found r (drop i line)
  pub inside : i ≤ length line

pub line_read_lem : (line : List ℕ) (r i : ℕ) → Some (r, i) ≡ number_field line (read_line line) → LineThere line r i
line_read_lem line r i q =
    let f = field-there (λ v. v) line (read_line line) r i q in
    let w = f.value in
    let n = f.rest in
    let t : List ℕ = number_text w ++ space ∷ [] in
    let s : line ≡ t ++ n = (reads_only line w n f.was).same ∙ sym (append_assoc (number_text w) (space ∷ []) n) in
    let m : length line ≡ length t + length n = ap length s ∙ length-append t n in
    let d : drop i line ≡ n = ap (drop i) s ∙ drop_at t n i (omega (arith, f.place)) in
    record { reads = f.was ∙ sym (ap (λ (x : ℕ). found x (drop i line)) f.made ∙ ap (found w) d); inside = omega (arith, f.place) }
