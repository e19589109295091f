-- What a reader of a table made of a list of names can rely on. Assumes nothing.
use mathlib.Core.Path.{◌≡◌, refl, sym, ap, ◌∙◌, subst}
use mathlib.Core.Bool.{Bool, true, false, cond}
use mathlib.Core.List.{List}
use mathlib.Core.Logic.{◌↔◌, ⊎_elim, by_cases}
use Prim.Native.Nat.{ℕ, suc, ◌≤◌, ◌<◌}
use native.Mathlib.Decide.{dec_lt, ℕ_discrete}
use native.Mathlib.Omega.{arith}
use lib.Dec.{eqb}
use lib.ListN.{length, take}
use Rattle.std.specs.Prelude.{Result, Ok, Err}
use Rattle.text.specs.Number.{is_digit, digit_next, next_is, read_more, read_number}
use Rattle.text.proofs.WriteLaws.{front-text}
use Rattle.names.specs.Names.{length_of}
use Rattle.listing.specs.Listing.{in_front, list_lines, is_name, name_behind, read_line, named, takes, taken, made, table_from, Made, most_table, listing, bytes_of, Lists}
use Rattle.listing.specs.TablesMade.{SaysAt, WrongAt, two_names, two_table, TablesMade}
use Rattle.listing.specs.declared.Refused.{Refused}
use Rattle.listing.proofs.LineLaws.{lines_none, lines_cut, lines-last, reads_only, reads-back}
use Rattle.listing.proofs.NamedLaws.{packed-most, packed-good}
use Rattle.listing.proofs.Walk.{lists_length}
use Rattle.listing.proofs.Sizes.{taken-short}
use Rattle.listing.proofs.Outcomes.{Told, RightBelow, made_so}

-- ---- which line is refused

first-only : (all : List (List ℕ)) (i j : ℕ) → WrongAt all i → RightBelow all i → WrongAt all j → RightBelow all j → i ≡ j
first-only all i j w b v c = by_cases (dec_lt i j) (λ h. absurd (c i h w)) (λ h. by_cases (dec_lt j i) (λ k. absurd (b j k v)) (λ k. omega arith))

module _ (s : List ℕ) where
  all-taken : ((listing s).line ≡ 0) ↔ ((j : ℕ) → ¬ (WrongAt (list_lines s) j))
  all-taken = ⊎_elim
      (λ a. ((λ e j w. a.1 j w.0 w), λ r. a.0))
      (λ a. ((λ e. absurd (let x = a.1 in omega arith)), λ r. absurd (r a.0 a.2)))
      (made_so s).which

  refused : (j : ℕ) → ((listing s).line ≡ suc j) ↔ (WrongAt (list_lines s) j × ((i : ℕ) → i < j → ¬ (WrongAt (list_lines s) i)))
  refused j = ⊎_elim
      (λ a. ((λ e. absurd (let x = a.0 in omega arith)), λ w. absurd (a.1 j w.0.0 w.0)))
      (λ a. (
        (λ e. let q : a.0 ≡ j = (let x = a.1 in omega arith) in (subst (WrongAt (list_lines s)) q a.2, subst (RightBelow (list_lines s)) q a.3)),
        λ w. a.1 ∙ ap suc (first-only (list_lines s) a.0 j a.2 a.3 w.0 w.1),
      ))
      (made_so s).which

  -- ---- the names

  told : (listing s).line ≡ 0 → Told (list_lines s) (length (list_lines s)) (listing s).table
  told e = ⊎_elim (λ a. a.2) (λ a. absurd (let x = a.1 in omega arith)) (made_so s).which

  nameless : (listing s).line ≡ 0 → (r : ℕ) → r < 64 → ((j : ℕ) (n : List ℕ) → ¬ (SaysAt (list_lines s) j r n)) → length_of (listing s).table r ≡ 0
  nameless e r h k = go (ℕ_discrete (length_of (listing s).table r) 0)
    where
      go : Dec (length_of (listing s).table r ≡ 0) → length_of (listing s).table r ≡ 0
      go (yes z) = z
      go (no z) = let o = (told e).held r h z in absurd (k o.0 o.1 o.3)

short : (s : List ℕ) → length (listing s).table ≤ most_table
short s = packed-most (made_so s).packed

-- ---- the table in the lent bytes

-- the result has the number of bytes of the table, which alone it has where no line was refused
bytes-made : {m : Made} {r : Result ℕ Refused} {d e : List ℕ} → Lists m r d e → bytes_of r ≡ length m.table
bytes-made {m} l = ap bytes_of l.result ∙ go (eqb m.line 0)
  where
    go : (t : Bool) → bytes_of (cond t (Ok (length m.table)) (Err (record { line = m.line; bytes = length m.table }))) ≡ length m.table
    go true = refl
    go false = refl

pub made_whole : {m : Made} {r : Result ℕ Refused} {d e : List ℕ} → m.line ≡ 0 → Lists m r d e → r ≡ Ok (length m.table)
made_whole z l = l.result ∙ rw z refl

module _ (s : List ℕ) {r : Result ℕ Refused} {d e : List ℕ} (room : most_table ≤ length d) (l : Lists (listing s) r d e) where
  -- a caller may lend the first bytes on
  pub made_inside : bytes_of r ≤ length e
  made_inside = let h = short s in let b = bytes-made l in omega (arith, lists_length l)

  -- and they are the table
  pub made-first : take (bytes_of r) e ≡ (listing s).table
  made-first = let h = short s in rw (bytes-made l, l.out) (front-text (listing s).table d (omega arith))

two-names : listing two_names ≡ made 0 two_table
unfolding listing table_from list_lines in_front read_line name_behind is_name read_number read_more digit_next is_digit next_is takes taken named length_of
two-names = refl

pub tables-made : TablesMade
tables-made = record {
  no_line = lines_none;
  line-ends = lines_cut;
  last_line = lines-last;
  line_reads = λ l r n. (
    (λ e. let i = reads_only l r n e in (i.same, i.role, i.some, i.short)),
    λ i. reads-back l r n (record { same = i.0; role = i.1; some = i.2; short = i.3 }),
  );
  all-taken = all-taken;
  refused = refused;
  good = λ s. packed-good (made_so s).packed;
  short = short;
  taken-short = taken-short;
  names = λ s e j r n u. ((told s e).said j r n u.0 u).1;
  nameless = nameless;
  one-outcome = λ m r q d e f p o. (p.result ∙ sym o.result, p.out ∙ sym o.out);
  two-names = two-names;
}
