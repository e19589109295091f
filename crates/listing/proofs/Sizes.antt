-- A list that is taken has at most 2,304 bytes: 64 lines of at most 36. Assumes nothing.
use mathlib.Core.Path.{◌≡◌, refl, ap, ◌∙◌}
use mathlib.Core.Bool.{Bool, true, false, cond}
use mathlib.Core.List.{List, [], ◌∷◌}
use Prim.Native.Nat.{ℕ, suc, ◌+◌, ◌≤◌}
use native.Mathlib.Omega.{arith}
use borrow.Author.Tests.{ne_eqb, eqb-true}
use lib.Dec.{eqb}
use lib.ListN.{length, length-append}
use Rattle.roles.specs.Sets.{most_roles}
use Rattle.text.specs.Ascii.{space, lf}
use Rattle.text.specs.Number.{number_text, Got, found, bad}
use Rattle.text.proofs.Shape.{length-number}
use Rattle.names.specs.Names.{most_name, length_of}
use Rattle.listing.specs.Listing.{in_front, list_lines, read_line, named, takes, taken, made, table_from, no_names, listing}
use Rattle.listing.proofs.LineLaws.{Reads, reads_only}
use Rattle.listing.proofs.NamedLaws.{total, total-most, total-none, total-named, Packed, packed_none, packed-named}

-- the bytes of lines, each with its LF
unfoldable line_bytes : List (List ℕ) → ℕ
line_bytes [] = 0
line_bytes (l ∷ ls) = suc (length l) + line_bytes ls

-- a list has no more: its last line may lack its LF
front_bytes : (b : ℕ) (ls : List (List ℕ)) → suc (line_bytes ls) ≤ line_bytes (in_front b ls)
unfolding in_front line_bytes
front_bytes b [] = omega arith
front_bytes b (l ∷ ls) = omega arith

list-bytes : (s : List ℕ) → length s ≤ line_bytes (list_lines s)
unfolding list_lines line_bytes
list-bytes [] = omega arith
list-bytes (b ∷ s) = go (eqb b lf) (list-bytes s)
  where
    go : (t : Bool) → length s ≤ line_bytes (list_lines s) → suc (length s) ≤ line_bytes (cond t ([] ∷ list_lines s) (in_front b (list_lines s)))
    go true h = omega arith
    go false h = omega (arith, front_bytes b (list_lines s))

-- the line of a name of x bytes has two digits, a space and LF besides
abbrev line_of : ℕ → ℕ
line_of x = cond (eqb x 0) 0 (x + 4)

line-most : (x : ℕ) → x ≤ most_name → line_of x ≤ 36
line-most x h = go (eqb x 0)
  where
    go : (b : Bool) → cond b 0 (x + 4) ≤ 36
    go true = omega arith
    go false = omega arith

line-fits : {l : List ℕ} {r : ℕ} {n : List ℕ} → Reads l r n → suc (length l) ≤ line_of (length n)
line-fits {l} {r} {n} i =
    let some = i.some in
    rw (ne_eqb (length n) 0 (λ e. omega arith))
    (omega (arith, ap length i.same ∙ length-append (number_text r) (space ∷ n), length-number 1 r (let h = i.role in omega arith)))

-- along the lines the table gains what they have; the recursion is handed in
module _ (k : ℕ) (t l : List ℕ) (ls : List (List ℕ)) (p : Packed t) (more : (u : List ℕ) → Packed u → (table_from (suc (suc k)) u ls).line ≡ 0 → line_bytes ls + total line_of most_roles u ≤ 2304) where
  taken-line : (o : Got) → read_line l ≡ o → (cond (takes t o) (table_from (suc (suc k)) (taken t o) ls) (made (suc k) t)).line ≡ 0
      → suc (length l) + line_bytes ls + total line_of most_roles t ≤ 2304
  unfolding takes taken
  taken-line bad q z = absurd (omega arith)
  taken-line (found r n) q z = go (eqb (length_of t r) 0) refl z
    where
      reads : Reads l r n
      reads = reads_only l r n q

      go : (b : Bool) → eqb (length_of t r) 0 ≡ b → (cond b (table_from (suc (suc k)) (named t r n) ls) (made (suc k) t)).line ≡ 0 → suc (length l) + line_bytes ls + total line_of most_roles t ≤ 2304
      go true e z =
          let free = eqb-true (length_of t r) 0 e in
          omega (arith, more (named t r n) (packed-named p r reads.role free n reads.some reads.short) z, total-named p r reads.role free n line_of refl, line-fits reads)
      go false e z = absurd (omega arith)

taken-bytes : (k : ℕ) (t : List ℕ) (ls : List (List ℕ)) → Packed t → (table_from (suc k) t ls).line ≡ 0 → line_bytes ls + total line_of most_roles t ≤ 2304
unfolding table_from line_bytes
taken-bytes k t [] p e = omega (arith, total-most p line_of 36 line-most most_roles (omega arith))
taken-bytes k t (l ∷ ls) p e = taken-line k t l ls p (λ u. taken-bytes (suc k) u ls) (read_line l) refl e

pub taken-short : (s : List ℕ) → (listing s).line ≡ 0 → length s ≤ 2304
unfolding listing
taken-short s e = omega (arith, list-bytes s, taken-bytes 0 no_names (list_lines s) packed_none e, total-none line_of refl most_roles (omega arith))
