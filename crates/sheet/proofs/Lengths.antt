-- No sheet has more than 31,250 bytes: at most 945 names of 32 bytes stand on one, since no open set is part of another. Assumes nothing.
use mathlib.Core.Path.{◌≡◌, refl, subst⁻¹}
use mathlib.Core.Bool.{Bool, true, false, cond}
use mathlib.Core.List.{List, [], ◌∷◌, ◌++◌}
use mathlib.Core.Logic.{◌≢◌, inl, inr, by_cases}
use Prim.Native.Nat.{ℕ, zero, suc, ◌+◌, ◌*◌, ◌≤◌, ◌<◌}
use native.Mathlib.Decide.{dec_lt}
use native.Mathlib.Omega.{arith}
use lib.Dec.{T, not_T, eqb}
use lib.ListN.{length, length-append}
use Rattle.roles.specs.Sets.{most_roles, has, In, part_of, roles_from, roles_of}
use Rattle.roles.proofs.Member.{in-empty, not_part-law, below-law}
use Rattle.roles.proofs.Laws.{shares_at}
use Rattle.meaning.specs.Lists.{Mem, keep}
use Rattle.meaning.specs.Rows.{Row, Good, most_opens}
use Rattle.text.specs.Ascii.{space}
use Rattle.text.specs.Number.{number_text}
use Rattle.text.proofs.Shape.{length-number}
use Rattle.names.specs.Names.{most_name, Tables, name_of}
use Rattle.names.proofs.TableLaws.{name-short}
use Rattle.sheet.specs.Sheet.{longest_sheet}
use Rattle.sheet.specs.Text.{deny_word, allow_word, undecided_word, alone, larger, roles_of_all, name_text, names_text, parting, parted_text, answer_word, sheet_lines}
use Rattle.sheet.proofs.Parts.{names-append}

-- ---- how many roles two sets have that share none

apart-count : (k r a b : ℕ) → ((q : ℕ) → In a q → ¬ (In b q)) → length (roles_from k r a) + length (roles_from k r b) ≤ k
unfolding roles_from
apart-count zero r a b h = omega arith
apart-count (suc k) r a b h = go (has a r) refl (has b r) refl (apart-count k (suc r) a b h)
  where
    go : (x : Bool) → has a r ≡ x → (y : Bool) → has b r ≡ y → length (roles_from k (suc r) a) + length (roles_from k (suc r) b) ≤ k
        → length (cond x (r ∷ roles_from k (suc r) a) (roles_from k (suc r) a)) + length (cond y (r ∷ roles_from k (suc r) b) (roles_from k (suc r) b)) ≤ suc k
    go true e true g i = absurd (h r (subst⁻¹ T e tt) (subst⁻¹ T g tt))
    go true e false g i = omega arith
    go false e true g i = omega arith
    go false e false g i = omega arith

-- fewer, where some role is in neither
apart-less : (k r a b : ℕ) → ((q : ℕ) → In a q → ¬ (In b q)) → (q : ℕ) → r ≤ q → q < k + r → ¬ (In a q) → ¬ (In b q) → length (roles_from k r a) + length (roles_from k r b) < k
unfolding roles_from
apart-less zero r a b h q l u m n = absurd (omega arith)
apart-less (suc k) r a b h q l u m n = by_cases (dec_lt r q)
    (λ d. go (has a r) refl (has b r) refl (apart-less k (suc r) a b h q d (omega arith) m n))
    (λ d. let e : q ≡ r = omega arith in neither (has a r) (λ t. m (subst⁻¹ (In a) e t)) (has b r) (λ t. n (subst⁻¹ (In b) e t)) (apart-count k (suc r) a b h))
  where
    go : (x : Bool) → has a r ≡ x → (y : Bool) → has b r ≡ y → length (roles_from k (suc r) a) + length (roles_from k (suc r) b) < k
        → length (cond x (r ∷ roles_from k (suc r) a) (roles_from k (suc r) a)) + length (cond y (r ∷ roles_from k (suc r) b) (roles_from k (suc r) b)) < suc k
    go true e true g i = absurd (h r (subst⁻¹ T e tt) (subst⁻¹ T g tt))
    go true e false g i = omega arith
    go false e true g i = omega arith
    go false e false g i = omega arith

    neither : (x : Bool) → ¬ (T x) → (y : Bool) → ¬ (T y) → length (roles_from k (suc r) a) + length (roles_from k (suc r) b) ≤ k
        → length (cond x (r ∷ roles_from k (suc r) a) (roles_from k (suc r) a)) + length (cond y (r ∷ roles_from k (suc r) b) (roles_from k (suc r) b)) < suc k
    neither true f y g i = absurd (f tt)
    neither false f true g i = absurd (g tt)
    neither false f false g i = omega arith

-- ---- how many roles a row shows

module _ (w : Row) (g : Good most_roles w) where
  not-denied : (o : ℕ) → Mem o w.opens → (q : ℕ) → In w.denied q → ¬ (In o q)
  not-denied o m q i j = g.apart-from-denied o m (shares_at o w.denied q j i)

  -- an open set beside the denied one
  beside-denied : (o : ℕ) → Mem o w.opens → length (roles_of w.denied) + length (roles_of o) ≤ 64
  unfolding roles_of
  beside-denied o m = apart-count most_roles 0 w.denied o (not-denied o m)

  module _ (o p : ℕ) (m : Mem o w.opens) (n : Mem p w.opens) (differ : p ≢ o) where
    -- a role of the other open set is in neither
    outside-both : (q : ℕ) × In p q × ¬ (In o q)
    outside-both = not_part-law p o (not_T (part_of p o) (λ t. differ (g.free.no_part p o n m t)))

    below : outside-both.0 < most_roles
    below = (below-law most_roles p).0 (g.below p n) outside-both.0 outside-both.1

    less-beside : length (roles_of w.denied) + length (roles_of o) ≤ 63
    unfolding roles_of
    less-beside =
        let q = outside-both in
        let h = apart-less most_roles 0 w.denied o (not-denied o m) q.0 (omega arith) (let b = below in omega arith) (λ i. not-denied p n q.0 i q.1) q.2 in omega arith

    set-less : length (roles_of o) ≤ 63
    set-less = let h = less-beside in omega arith

all-less : (l : List ℕ) → ((o : ℕ) → Mem o l → length (roles_of o) ≤ 63) → length (roles_of_all l) ≤ 63 * length l
unfolding roles_of_all
all-less [] h = omega arith
all-less (o ∷ l) h = omega (arith, length-append (roles_of o) (roles_of_all l), h o (inl refl), all-less l (λ x m. h x (inr m)))

-- a set alone may have all roles; among others each has one less, and with the first of them the denied ones have
few-shown : (d : ℕ) (l : List ℕ) → Good most_roles (record { denied = d; opens = l }) → length l ≤ most_opens → length (roles_of d) + length (roles_of_all l) ≤ 945
unfolding roles_of roles_of_all
few-shown d [] g few = let h = apart-count most_roles 0 d 0 (λ q i. in-empty q) in omega arith
few-shown d (o ∷ []) g few = let h = beside-denied (record { denied = d; opens = o ∷ [] }) g o (inl refl) in omega (arith, length-append (roles_of o) [])
few-shown d (o ∷ p ∷ l) g few =
    let w : Row = record { denied = d; opens = o ∷ p ∷ l } in
    let first = less-beside w g o p (inl refl) (inr (inl refl)) (λ e. let u = g.free.ascending.0 p (inl refl) in omega arith) in
    let others = all-less (p ∷ l) (λ x m. set-less w g x o (inr m) (inl refl) (λ e. let u = g.free.ascending.0 x m in omega arith)) in
    omega (arith, length-append (roles_of o) (roles_of_all (p ∷ l)))

-- ---- how many bytes they take

-- what the bound needs of the texts of roles
abbrev pub Short : (ℕ → List ℕ) → Type 0
Short f = (r : ℕ) → r < most_roles → length (f r) ≤ most_name

pub names-short : (works standard : List ℕ) → Tables works standard → Short (name_text works standard)
unfolding name_text
names-short works standard t r h = go (eqb (length (name_of works standard r)) 0)
  where
    go : (b : Bool) → length (cond b (number_text r) (name_of works standard r)) ≤ most_name
    go true = let n = length-number 1 r (omega arith) in omega arith
    go false = name-short works standard t.0 t.1 r h

module _ (f : ℕ → List ℕ) (short : Short f) where
  length_from : (k r s : ℕ) → k + r ≤ most_roles → length (names_text f (roles_from k r s)) ≤ 33 * length (roles_from k r s)
  unfolding roles_from names_text
  length_from zero r s h = omega arith
  length_from (suc k) r s h = go (has s r) (length_from k (suc r) s (omega arith))
    where
      go : (b : Bool) → length (names_text f (roles_from k (suc r) s)) ≤ 33 * length (roles_from k (suc r) s)
          → length (names_text f (cond b (r ∷ roles_from k (suc r) s) (roles_from k (suc r) s))) ≤ 33 * length (cond b (r ∷ roles_from k (suc r) s) (roles_from k (suc r) s))
      go true i = let n = short r (omega arith) in omega (arith, length-append (space ∷ f r) (names_text f (roles_from k (suc r) s)))
      go false i = i

  length-names : (s : ℕ) → length (names_text f (roles_of s)) ≤ 33 * length (roles_of s)
  unfolding roles_of
  length-names s = length_from most_roles 0 s (omega arith)

  -- the two lines of open sets together: each set stands in one of them
  abbrev both_lines : Bool → List ℕ → ℕ
  both_lines later l = length (names_text f (roles_of_all (keep alone l))) + length (parted_text f later (keep larger l))

  module _ (s : ℕ) (l : List ℕ) (later : Bool) where
    both-alone : alone s ≡ true → both_lines later (s ∷ l) ≡ length (names_text f (roles_of s)) + both_lines later l
    unfolding keep roles_of_all
    both-alone e = rw (e, names-append f (roles_of s) (roles_of_all (keep alone l)), length-append (names_text f (roles_of s)) (names_text f (roles_of_all (keep alone l)))) (omega arith)

    both-larger : alone s ≡ false → both_lines later (s ∷ l) ≡ length (parting later) + length (names_text f (roles_of s)) + both_lines true l
    unfolding keep parted_text
    both-larger e =
        rw (e, length-append (parting later ++ names_text f (roles_of s)) (parted_text f true (keep larger l)), length-append (parting later) (names_text f (roles_of s))) (omega arith)

  by-alone : (s : ℕ) {A : Type 0} → (alone s ≡ true → A) → (alone s ≡ false → A) → A
  by-alone s {A} x y = go (alone s) refl
    where
      go : (b : Bool) → alone s ≡ b → A
      go true e = x e
      go false e = y e

  both-length : (later : Bool) (l : List ℕ) → both_lines later l ≤ 33 * length (roles_of_all l) + 2 * length l
  unfolding keep roles_of_all names_text parted_text
  both-length later [] = omega arith
  both-length later (s ∷ l) = by-alone s
      (λ e. omega (arith, both-alone s l later e, length-append (roles_of s) (roles_of_all l), length-names s, both-length later l))
      (λ e. omega (arith, both-larger s l later e, length-append (roles_of s) (roles_of_all l), length-names s, length-parting later, both-length true l))
    where
      length-parting : (b : Bool) → length (parting b) ≤ 2
      length-parting true = omega arith
      length-parting false = omega arith

  -- before the first set nothing parts
  first-length : (s : ℕ) (l : List ℕ) → both_lines false (s ∷ l) + 2 ≤ 33 * length (roles_of_all (s ∷ l)) + 2 * length (s ∷ l)
  unfolding roles_of_all
  first-length s l = by-alone s
      (λ e. omega (arith, both-alone s l false e, length-append (roles_of s) (roles_of_all l), length-names s, both-length false l))
      (λ e. omega (arith, both-larger s l false e, length-append (roles_of s) (roles_of_all l), length-names s, both-length true l))

  sets-length : (l : List ℕ) → length l ≤ most_opens → both_lines false l ≤ 33 * length (roles_of_all l) + 28
  unfolding keep roles_of_all names_text parted_text
  sets-length [] few = omega arith
  sets-length (s ∷ l) few = omega (arith, first-length s l)

  length-answer : (v : ℕ) → length (answer_word v) ≤ 9
  length-answer v = go (eqb v 10) (eqb v 11)
    where
      go : (a b : Bool) → length (cond a deny_word (cond b allow_word undecided_word)) ≤ 9
      go true b = omega arith
      go false true = omega arith
      go false false = omega arith

  pub sheet-length : (w : Row) (v : ℕ) → Good most_roles w → length w.opens ≤ most_opens → length (sheet_lines f w v) ≤ longest_sheet
  unfolding sheet_lines
  sheet-length w v g few =
      let d = length-names w.denied in
      let o = sets-length w.opens few in
      let n = few-shown w.denied w.opens g few in
      let a = length-answer v in
      simp length-append (omega arith)
