-- The lines of a list taken in turn: what the table holds of them, and which is the first that is refused. Assumes nothing.
use mathlib.Core.Path.{◌≡◌, refl, sym, ap, ◌∙◌, subst}
use mathlib.Core.Bool.{Bool, true, false, cond}
use mathlib.Core.List.{List, [], ◌∷◌}
use mathlib.Core.Logic.{◌≢◌, ◌⊎◌, inl, inr, ⊎_elim, by_cases}
use Prim.Native.Nat.{ℕ, suc, ◌≤◌, ◌<◌}
use native.Mathlib.Decide.{dec_lt, ℕ_discrete}
use native.Mathlib.Omega.{arith}
use borrow.Author.Tests.{eqb-true, eqb-false}
use lib.Dec.{eqb}
use lib.ListN.{length, get_or, drop, length-drop}
use lib.Seq.{drop-cons}
use Rattle.roles.specs.Sets.{most_roles}
use Rattle.text.specs.Number.{Got, found, bad}
use Rattle.text.proofs.NumberLaws.{bad≢found}
use Rattle.names.specs.Names.{length_of, part_at}
use Rattle.listing.specs.Listing.{list_lines, read_line, named, takes, taken, Made, made, table_from, no_names, listing}
use Rattle.listing.specs.TablesMade.{SaysAt, WrongAt}
use Rattle.listing.proofs.LineLaws.{Reads, reads_only}
use Rattle.listing.proofs.NamedLaws.{length-own, length-kept, part-own, part-kept, Packed, packed-long, packed_none, packed-named, none_named}

-- ---- a table holds what the first lines say, and no more

module _ (all : List (List ℕ)) where
  pub record Told (k : ℕ) (t : List ℕ) : Type 0 where
    pub said : (j r : ℕ) (n : List ℕ) → j < k → SaysAt all j r n → (length_of t r ≢ 0) × (part_at t r ≡ n)
    pub held : (r : ℕ) → r < most_roles → length_of t r ≢ 0 → (j : ℕ) × (n : List ℕ) × (j < k) × SaysAt all j r n

  told_none : Told 0 no_names
  told_none = record { said = λ j r n h s. absurd (omega arith); held = λ r h z. absurd (z (none_named r h)) }

  -- one line more
  module _ {k : ℕ} {t : List ℕ} (p : Packed t) (g : Told k t) (r : ℕ) (n : List ℕ) (s : SaysAt all k r n) (free : length_of t r ≡ 0) where
    told-next : Told (suc k) (named t r n)
    told-next = record {
      said = λ j q m h u. by_cases (dec_lt j k) (λ b. earlier j q m b u) (λ b. here j q m (omega arith) u);
      held = λ q l z. go q l z (ℕ_discrete q r);
    }
      where
        read : (r < most_roles) × (length n ≢ 0)
        read = let i = reads_only (get_or all k []) r n s.1 in let o = i.some in (i.role, λ e. omega arith)

        -- a role that had a name keeps it
        other : (q : ℕ) → length_of t q ≢ 0 → q ≢ r
        other q z e = z (ap (length_of t) e ∙ free)

        earlier : (j q : ℕ) (m : List ℕ) → j < k → SaysAt all j q m → (length_of (named t r n) q ≢ 0) × (part_at (named t r n) q ≡ m)
        earlier j q m b u =
            let o = g.said j q m b u in
            let l = (reads_only (get_or all j []) q m u.1).role in
            let x = other q o.0 in (
              rw (length-kept t r n (packed-long p) read.0 q l x) o.0,
              part-kept t r n (packed-long p) read.0 q l x (p.start q l o.0) (p.inside q l o.0) ∙ o.1,
            )

        here : (j q : ℕ) (m : List ℕ) → j ≡ k → SaysAt all j q m → (length_of (named t r n) q ≢ 0) × (part_at (named t r n) q ≡ m)
        here j q m e u =
            let v : read_line (get_or all k []) ≡ found q m = rw (← e) u.1 in
            let w = s.1 in
            let x : r ≡ q = cc in
            let y : n ≡ m = cc in
            (rw (← x, length-own t r n (packed-long p) read.0) read.1, rw (← x) (part-own t r n (packed-long p) read.0) ∙ y)

        go : (q : ℕ) → q < most_roles → length_of (named t r n) q ≢ 0 → Dec (q ≡ r) → (j : ℕ) × (m : List ℕ) × (j < suc k) × SaysAt all j q m
        go q l z (yes e) = (k, n, omega arith, (s.0, rw e s.1))
        go q l z (no e) =
            let o = g.held q l (rw (← length-kept t r n (packed-long p) read.0 q l e) z) in
            (o.0, o.1, omega arith, o.3)

  -- ---- the lines taken in turn

  abbrev pub RightBelow : ℕ → Type 0
  RightBelow k = (i : ℕ) → i < k → ¬ (WrongAt all i)

  -- all lines are taken, or the first wrong one is refused
  pub record Outcome (m : Made) : Type 0 where
    pub packed : Packed m.table
    pub which : ((m.line ≡ 0) × RightBelow (length all) × Told (length all) m.table) ⊎ ((j : ℕ) × (m.line ≡ suc j) × WrongAt all j × RightBelow j)

  module _ (k : ℕ) (t : List ℕ) (p : Packed t) (g : Told k t) (b : RightBelow k) (h : k < length all) where
    refused-here : WrongAt all k → Outcome (made (suc k) t)
    refused-here w = record { packed = p; which = inr (k, refl, w, b) }

    -- a role that has a name was named by a line before
    twice : (r : ℕ) (n : List ℕ) → read_line (get_or all k []) ≡ found r n → length_of t r ≢ 0 → WrongAt all k
    twice r n e z =
        let o = g.held r (reads_only (get_or all k []) r n e).role z in
        (h, inr (r, n, o.1, o.0, o.2, (h, e), o.3))

    right-here : (r : ℕ) (n : List ℕ) → read_line (get_or all k []) ≡ found r n → length_of t r ≡ 0 → ¬ (WrongAt all k)
    right-here r n e z w = ⊎_elim
        (λ x. bad≢found (sym x ∙ e))
        (λ x.
        let u = x.5.1 in
        let q : x.0 ≡ r = cc in
        (g.said x.3 x.0 x.2 x.4 x.6).0 (ap (length_of t) q ∙ z))
        w.1

    right-next : (r : ℕ) (n : List ℕ) → read_line (get_or all k []) ≡ found r n → length_of t r ≡ 0 → RightBelow (suc k)
    right-next r n e z i l w =
        by_cases (dec_lt i k) (λ c. b i c w) (λ c. let q : i ≡ k = omega arith in right-here r n e z (subst (WrongAt all) q w))

    step : (ls : List (List ℕ)) (o : Got) → read_line (get_or all k []) ≡ o
        → ((u : List ℕ) → Packed u → Told (suc k) u → RightBelow (suc k) → Outcome (table_from (suc (suc k)) u ls))
        → Outcome (cond (takes t o) (table_from (suc (suc k)) (taken t o) ls) (made (suc k) t))
    unfolding takes taken
    step ls bad e f = refused-here (h, inl e)
    step ls (found r n) e f = go (eqb (length_of t r) 0) refl
      where
        i : Reads (get_or all k []) r n
        i = reads_only (get_or all k []) r n e

        go : (c : Bool) → eqb (length_of t r) 0 ≡ c → Outcome (cond c (table_from (suc (suc k)) (named t r n) ls) (made (suc k) t))
        go true q =
            let z = eqb-true (length_of t r) 0 q in
            f (named t r n) (packed-named p r i.role z n i.some i.short) (told-next p g r n (h, e) z) (right-next r n e z)
        go false q = refused-here (twice r n e (eqb-false (length_of t r) 0 q))

  outcome : (ls : List (List ℕ)) (k : ℕ) (t : List ℕ) → drop k all ≡ ls → k ≤ length all → Packed t → Told k t → RightBelow k → Outcome (table_from (suc k) t ls)
  unfolding table_from
  outcome [] k t e h p g b =
      let q : k ≡ length all = omega (arith, simp length-drop at (ap length e)) in
      record { packed = p; which = inl (refl, subst RightBelow q b, subst (λ (j : ℕ). Told j t) q g) }
  outcome (l ∷ ls) k t e h p g b =
      let j : k < length all = omega (arith, simp length-drop at (ap length e)) in
      let c = drop-cons all k [] j in
      let x : get_or all k [] ≡ l = cc in
      let y : drop (suc k) all ≡ ls = cc in
      rw (← x) (step k t p g b j ls (read_line (get_or all k [])) refl (λ u v w a. outcome ls (suc k) u y (omega arith) v w a))

pub made_so : (s : List ℕ) → Outcome (list_lines s) (listing s)
unfolding listing
made_so s = outcome (list_lines s) (list_lines s) 0 no_names refl (omega arith) packed_none (told_none (list_lines s)) (λ i h. absurd (omega arith))
