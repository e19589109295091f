-- Along the lines of a list: the lines not yet passed, taken into the table so far, make the table of the list. Assumes nothing.
use mathlib.Core.Path.{◌≡◌, refl, sym, ap, ◌∙◌}
use mathlib.Core.Bool.{true, false}
use mathlib.Core.List.{List, ◌∷◌}
use Prim.Native.Nat.{ℕ, suc, ◌+◌, ◌-◌, ◌≤◌, ◌<◌}
use native.Mathlib.Numerals.{add-one}
use native.Mathlib.Omega.{arith}
use borrow.Author.Tests.{eqb-true, ne_eqb}
use lib.Dec.{eqb}
use lib.ListN.{length, take, drop, length-drop, drop_of_length-le}
use lib.Seq.{length-sets, drop-drop}
use Rattle.std.specs.Prelude.{Result, Ok, Err}
use Rattle.roles.specs.Sets.{most_roles}
use Rattle.text.specs.Number.{found, bad}
use Rattle.text.specs.Write.{Wrote}
use Rattle.text.proofs.WriteLaws.{front-text, wrote-length}
use Rattle.names.specs.Names.{contents_bytes, most_name, length_of}
use Rattle.text.specs.Lines.{before_lf}
use Rattle.listing.specs.Listing.{list_lines, read_line, named, takes, taken, Made, made, table_from, no_names, most_table, listing, listed, Lists}
use Rattle.listing.specs.declared.Refused.{Refused}
use Rattle.listing.proofs.LineLaws.{first-line, lines_none, Reads, reads_only}
use Rattle.listing.proofs.NamedLaws.{length-named, Packed, packed-long, packed-most, packed_none, packed-named}
use Rattle.listing.proofs.Writing.{sets_over}

pub lists_length : {m : Made} {r : Result ℕ Refused} {d e : List ℕ} → Lists m r d e → length e ≡ length d
lists_length {m} {r} {d} l = ap length l.out ∙ length-sets d 0 m.table

pub record Left (list d out : List ℕ) (bytes number at : ℕ) : Type 0 where
  pub table : List ℕ
  pub same : table_from number table (list_lines (drop at list)) ≡ listing list
  pub wrote : Wrote d 0 table out bytes
  pub packed : Packed table
  pub numbered : 1 ≤ number
  pub counted : number ≤ at + 1
  pub room : most_table ≤ length d

pub left-start : (list : List ℕ) {first d : List ℕ} {p : ℕ} → most_table ≤ length first → Wrote first 0 no_names d p → Left list d d p 1 0
unfolding listing
left-start list {first} {d} {p} h w =
    let n = wrote-length w in
    record {
      table = no_names;
      same = refl;
      wrote = record { bytes = rw w.bytes (sym (sets_over first no_names no_names (omega arith) (omega arith))); next = w.next };
      packed = packed_none;
      numbered = omega arith;
      counted = omega arith;
      room = omega arith;
    }

module _ {list d out : List ℕ} {bytes number at : ℕ} (l : Left list d out bytes number at) where
  pub left-length : length out ≡ length d
  left-length = wrote-length l.wrote

  left-bytes : bytes ≡ length l.table
  left-bytes = let n = l.wrote.next in omega arith

  -- a table has its contents, and fits
  pub left-long : contents_bytes ≤ bytes
  left-long = let n = left-bytes in let p = packed-long l.packed in omega arith

  pub left-fits : bytes ≤ length out
  left-fits = let n = left-bytes in let p = packed-most l.packed in let h = l.room in let m = left-length in omega arith

  left-table : take bytes out ≡ l.table
  left-table =
      let p = packed-most l.packed in
      let h = l.room in
      rw (left-bytes, l.wrote.bytes) (front-text l.table d (omega arith))

  -- as many bytes as the code counts
  pub left-count : bytes ≡ length (take bytes out)
  left-count = left-bytes ∙ ap length (sym left-table)

  -- the table so far is that of the list, where no line comes or one is refused; it was written over one without names
  table_is : {first : List ℕ} {p : ℕ} → Wrote first 0 no_names d p → (k : ℕ) → table_from number l.table (list_lines (drop at list)) ≡ made k l.table
      → {r : Result ℕ Refused} → r ≡ listed (made k l.table) → Lists (listing list) r first out
  table_is {first} w k e i =
      let a = packed-long l.packed in
      let b = packed-most l.packed in
      let n = l.room in
      let m = wrote-length w in
      rw (← l.same, e) (record {
        result = i;
        out = l.wrote.bytes ∙ rw w.bytes (sets_over first no_names l.table a (omega arith));
      })

  pub left_end : {first : List ℕ} {p : ℕ} → Wrote first 0 no_names d p → length list ≤ at → Lists (listing list) (Ok bytes) first out
  unfolding table_from
  left_end w h = table_is w 0 (rw (drop_of_length-le list {i = at} h, lines_none) refl) (ap Ok left-bytes)

  -- the next line
  module _ (h : at < length list) (end : ℕ) (e : end ≡ at + before_lf (drop at list)) where
    pub line-inside : end ≤ length list
    line-inside = let p = (first-line (drop at list) (omega (arith, length-drop at list))).inside in omega (arith, length-drop at list)

    line-next : list_lines (drop at list) ≡ take (end - at) (drop at list) ∷ list_lines (drop (end + 1) list)
    line-next =
        let n : ℕ = before_lf (drop at list) in
        let a : end - at ≡ n = omega arith in
        let b : at + suc n ≡ end + 1 = omega arith in
        rw (a, ← b, ← drop-drop (suc n) at list) (first-line (drop at list) (omega (arith, length-drop at list))).first

    line_refused : {first : List ℕ} {p : ℕ} → Wrote first 0 no_names d p → takes l.table (read_line (take (end - at) (drop at list))) ≡ false
        → Lists (listing list) (Err (record { line = number; bytes = bytes })) first out
    unfolding table_from
    line_refused w f =
        let n = l.numbered in
        let z : eqb number 0 ≡ false = ne_eqb number 0 (λ o. omega arith) in
        table_is w number (rw (line-next, f) refl) (rw (z, left-bytes) refl)

    pub line-unread : {first : List ℕ} {p : ℕ} → Wrote first 0 no_names d p → read_line (take (end - at) (drop at list)) ≡ bad
        → Lists (listing list) (Err (record { line = number; bytes = bytes })) first out
    unfolding takes
    line-unread w b = line_refused w (rw b refl)

    module _ (r : ℕ) (n : List ℕ) (f : read_line (take (end - at) (drop at list)) ≡ found r n) where
      reads : Reads (take (end - at) (drop at list)) r n
      reads = reads_only (take (end - at) (drop at list)) r n f

      pub line-role : r < most_roles
      line-role = reads.role

      line-short : length n ≤ most_name
      line-short = reads.short

      pub line-twice : {first : List ℕ} {p : ℕ} → Wrote first 0 no_names d p → eqb (length_of (take bytes out) r) 0 ≡ false
          → Lists (listing list) (Err (record { line = number; bytes = bytes })) first out
      unfolding takes
      line-twice w t = line_refused w (rw (f, ← left-table) t)

      module _ (t : eqb (length_of (take bytes out) r) 0 ≡ true) where
        free : eqb (length_of l.table r) 0 ≡ true
        free = rw (← left-table) t

        grown : Packed (named l.table r n)
        grown = packed-named l.packed r line-role (eqb-true (length_of l.table r) 0 free) n reads.some line-short

        pub line-room : bytes + length n ≤ most_table
        line-room = let m = packed-most grown in let b = left-bytes in omega (arith, length-named l.table r n)

        table-next : table_from number l.table (list_lines (drop at list)) ≡ table_from (number + 1) (named l.table r n) (list_lines (drop (end + 1) list))
        unfolding table_from takes taken
        table-next = rw (line-next, f, free, add-one number) refl

        pub line_taken : {now : List ℕ} {p : ℕ} → Wrote out 0 (named (take bytes out) r n) now p → Left list d now p (number + 1) (end + 1)
        line_taken {now} {p} w =
            let m = packed-most grown in
            let k = l.room in
            let v : Wrote out 0 (named l.table r n) now p = rw left-table at w in
            record {
              table = named l.table r n;
              same = sym table-next ∙ l.same;
              wrote = record {
                bytes = v.bytes ∙ rw l.wrote.bytes (sets_over d l.table (named l.table r n) (omega (arith, length-named l.table r n)) (omega arith));
                next = v.next;
              };
              packed = grown;
              numbered = omega arith;
              counted = let c = l.counted in omega (arith, e);
              room = k;
            }
