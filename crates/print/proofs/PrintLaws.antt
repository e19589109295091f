-- The calls that print, refusal by refusal, and how long their texts are. Assumes nothing.
use mathlib.Core.Path.{◌≡◌, refl, ap, ◌∙◌, subst⁻¹}
use mathlib.Core.Bool.{Bool, true, false, cond}
use mathlib.Core.List.{List, [], ◌∷◌, ◌++◌}
use mathlib.Core.Logic.{inl, inr, by_cases}
use Prim.Native.Nat.{ℕ, suc, ◌+◌, ◌*◌, ◌≤◌, ◌<◌}
use native.Mathlib.Nat.{lt_of_lt_of_le}
use native.Mathlib.Decide.{dec_lt}
use native.Mathlib.Omega.{arith}
use borrow.Author.Tests.{lt-ltb, le-ltb, lt-leb, le-leb}
use lib.Dec.{T, eqb}
use lib.ListN.{length, length-append}
use lib.Pow.{pow_mono}
use Rattle.roles.specs.Sets.{most_roles, Below}
use Rattle.written.specs.Print.{kept, shown}
use Rattle.meaning.specs.declared.Happening.TheVariants.{Deny}
use Rattle.meaning.specs.Events.{last_permission, last_policy_state}
use Rattle.meaning.specs.Lists.{Mem}
use Rattle.meaning.specs.Rows.{Row, Good}
use Rattle.area.specs.Layout.{good_bytes}
use Rattle.area.specs.State.{Entry, State, state_of}
use Rattle.area.proofs.RowLaws.{GoodEntry, row-good}
use Rattle.area.proofs.Bytes.{good-state}
use Rattle.table.specs.Table.{rows_in, nth}
use Rattle.std.proofs.Common.{Some, None}
use Rattle.walker.specs.Walk.{given, handed}
use Rattle.walker.specs.declared.Handed.{Handed}
use Rattle.walker.proofs.WalkLaws.{walk-row, walk_end}
use Rattle.text.specs.Ascii.{lf}
use Rattle.requests.specs.Request.{most_bytes, request_text, InRange}
use Rattle.requests.specs.declared.Request.{Request}
use Rattle.requests.specs.declared.Request.TheVariants.{Open}
use Rattle.requests.proofs.Theorems.{request-length}
use Rattle.print.specs.Printed.{allows, replies_of, tells, line_of, lines_text, open_line, row_requests, row_lines}
use Rattle.print.specs.Print.{least_room, print_open_of, print_row_of}

-- ---- refusal by refusal

module _ (l d : List ℕ) where
  pub open-bad : good_bytes l ≡ false → print_open_of l d ≡ kept 1 d
  unfolding print_open_of
  open-bad g = rw g

  pub open-short : good_bytes l ≡ true → length d < least_room → print_open_of l d ≡ kept 16 d
  unfolding print_open_of
  open-short g h = rw (g, lt-ltb (length d) least_room h)

  pub open-writes : good_bytes l ≡ true → least_room ≤ length d → print_open_of l d ≡ shown (open_line (state_of l)) d
  unfolding print_open_of
  open-writes g h = rw (g, le-ltb (length d) least_room h)

module _ (l : List ℕ) (i : ℕ) (d : List ℕ) where
  pub row-bad : good_bytes l ≡ false → print_row_of l i d ≡ kept 1 d
  unfolding print_row_of
  row-bad g = rw g

  pub row-none : good_bytes l ≡ true → length (rows_in l) ≤ i → print_row_of l i d ≡ kept 18 d
  unfolding print_row_of
  row-none g h = rw (g, le-leb (length (rows_in l)) i h)

  pub row-short : good_bytes l ≡ true → i < length (rows_in l) → length d < least_room → print_row_of l i d ≡ kept 16 d
  unfolding print_row_of
  row-short g h k = rw (g, lt-leb (length (rows_in l)) i h, lt-ltb (length d) least_room k)

  pub row-writes : good_bytes l ≡ true → i < length (rows_in l) → least_room ≤ length d → print_row_of l i d ≡ shown (row_lines (state_of l).policy (nth i (rows_in l))) d
  unfolding print_row_of
  row-writes g h k = rw (g, lt-leb (length (rows_in l)) i h, le-ltb (length d) least_room k)

-- ---- every line of a good area has a text that reads

abbrev pub AllInRange : List Request → Type 0
AllInRange [] = Unit {0}
AllInRange (q ∷ qs) = InRange q × AllInRange qs

pub open-in-range : (s : State) → s.roles ≤ most_roles → s.policy ≤ last_policy_state → InRange (Open s.roles s.policy)
open-in-range s h k = (omega arith, k)

module _ (n : ℕ) (few : n ≤ most_roles) (p : ℕ) (v : p ≤ last_permission) (g : ℕ) (k : g ≤ last_policy_state) where
  narrow : (s : ℕ) → Below n s → Below most_roles s
  narrow s h = lt_of_lt_of_le h (pow_mono few)

  allows-in-range : (l : List ℕ) → ((o : ℕ) → Mem o l → Below n o) → AllInRange (tells p (allows l) g)
  allows-in-range [] h = tt
  allows-in-range (o ∷ l) h = ((v, narrow o (h o (inl refl)), k), allows-in-range l (λ x m. h x (inr m)))

  replies-in-range : (w : Row) → Good n w → AllInRange (tells p (replies_of w) g)
  replies-in-range w a = go (eqb w.denied 0)
    where
      go : (b : Bool) → AllInRange (tells p (cond b [] (Deny (record { bits = w.denied }) ∷ []) ++ allows w.opens) g)
      go true = allows-in-range w.opens a.below
      go false = ((v, narrow w.denied a.denied-below, k), allows-in-range w.opens a.below)

pub row-in-range : (n last : ℕ) → n ≤ most_roles → (g : ℕ) → g ≤ last_policy_state → (e : Entry) → GoodEntry n last e → AllInRange (row_requests g e)
row-in-range n last few g k e a = replies-in-range n few e.permission a.valid g k e.row a.good-row.good

-- ---- lengths

line-length : (q : Request) → InRange q → length (line_of q) ≤ 1 + most_bytes
unfolding line_of
line-length q h = omega (arith, length-append (request_text q) (lf ∷ []), request-length q h)

open-length : (s : State) → s.roles ≤ most_roles → s.policy ≤ last_policy_state → length (open_line s) ≤ least_room
open-length s h k = omega (arith, line-length (Open s.roles s.policy) (open-in-range s h k))

lines-length : (qs : List Request) → AllInRange qs → length (lines_text qs) ≤ (1 + most_bytes) * length qs
unfolding lines_text
lines-length [] h = omega arith
lines-length (q ∷ qs) h = omega (arith, length-append (line_of q) (lines_text qs), line-length q h.0, lines-length qs h.1)

-- a line for what is denied, and one for each open set
replies-few : (p : ℕ) (w : Row) (g : ℕ) → length (tells p (replies_of w) g) ≤ 1 + length w.opens
replies-few p w g = go (eqb w.denied 0)
  where
    opens : (l : List ℕ) → length (tells p (allows l) g) ≡ length l
    opens [] = refl
    opens (o ∷ l) = ap suc (opens l)

    go : (b : Bool) → length (tells p (cond b [] (Deny (record { bits = w.denied }) ∷ []) ++ allows w.opens) g) ≤ 1 + length w.opens
    go true = omega (arith, opens w.opens)
    go false = omega (arith, opens w.opens)

row-length : (n last : ℕ) → n ≤ most_roles → (g : ℕ) → g ≤ last_policy_state → (e : Entry) → GoodEntry n last e → length (row_lines g e) ≤ least_room
unfolding row_lines
row-length n last few g k e a =
    let m = a.good-row.few in
    omega (arith, lines-length (row_requests g e) (row-in-range n last few g k e a), replies-few e.permission e.row g)

pub by-area : (l : List ℕ) {P : Type 0} → (good_bytes l ≡ false → P) → (good_bytes l ≡ true → P) → P
by-area l {P} f g = go (good_bytes l) refl
  where
    go : (b : Bool) → good_bytes l ≡ b → P
    go true e = g e
    go false e = f e

-- the longest texts
module _ (l : List ℕ) (g : good_bytes l ≡ true) where
  pub is-good : T (good_bytes l)
  is-good = subst⁻¹ T g tt

  pub open-fits : length (open_line (state_of l)) ≤ least_room
  open-fits = let s = good-state l is-good in open-length (state_of l) s.most-roles s.policy-small

  pub row_fits : (i : ℕ) → i < length (rows_in l) → length (row_lines (state_of l).policy (nth i (rows_in l))) ≤ least_room
  row_fits i h =
      let s = good-state l is-good in
      row-length (state_of l).roles 0 s.most-roles (state_of l).policy s.policy-small (nth i (rows_in l)) (row-good (state_of l).roles 0 (rows_in l) s.good-rows i h)

-- ---- the row that a walker hands out

module _ (l : List ℕ) (i : ℕ) (g : T (good_bytes l)) where
  pub some-handed : {h : Handed} → Some h ≡ handed l i → (i < length (rows_in l)) × (h ≡ given (nth i (rows_in l)))
  some-handed {h} e = by_cases (dec_lt i (length (rows_in l)))
      (λ k. let q = e ∙ (walk-row l i g k).0 in (k, cc))
      (λ k. let q = e ∙ (walk_end l i g (omega arith)).0 in absurd cc)

  pub none-handed : None ≡ handed l i → length (rows_in l) ≤ i
  none-handed e = by_cases (dec_lt i (length (rows_in l)))
      (λ k. let q = e ∙ (walk-row l i g k).0 in absurd cc)
      (λ k. omega arith)
