-- What the passes over the open sets cite: what is known of the sets passed, from the last to the first. Assumes nothing.
use mathlib.Core.Path.{◌≡◌, refl, sym, ap, ap₂, ◌∙◌, subst}
use mathlib.Core.Bool.{Bool, true, false, not, ◌&&◌, ◌||◌, and-false, and-true}
use mathlib.Core.List.{List, [], ◌∷◌, ◌++◌}
use Prim.Native.Nat.{ℕ, zero, suc, ◌+◌, ◌≤◌, ◌<◌}
use native.Mathlib.Omega.{arith}
use borrow.Author.Tests.{le-leb, lt-leb}
use lib.Dec.{leb, eqb}
use lib.ListN.{length, get_or, take, drop, length-take, drop_of_length-le}
use Rattle.words.proofs.Runs.{run_take, run_drop}
use Rattle.roles.specs.Sets.{shares, joined}
use Rattle.roles.proofs.Laws.{joined-assoc}
use Rattle.meaning.specs.Rows.{has_part}
use Rattle.opens.specs.Opens.{opens_good}
use Rattle.opens.specs.Parts.{stand_apart, union_of, each_outside}
use Rattle.opens.proofs.OpensLaws.{climb, first_or, apart-one, opens-parts, union-first}

-- sets that climb to at most m, their union, and the first of them, or m
pub record Passed (m : ℕ) (l : List ℕ) (later next : ℕ) : Type 0 where
  pub climbs : climb m l ≡ true
  pub union : later ≡ union_of l
  pub first : next ≡ first_or m l

module _ (m o : ℕ) (l : List ℕ) (later next : ℕ) (p : Passed m l later next) where
  one_more : {both : ℕ} → both ≡ joined o later → o ≤ next → Passed m (o ∷ l) both o
  unfolding climb union_of
  one_more e h = record { climbs = ap₂ ◌&&◌ p.climbs (ap (leb o) (sym p.first) ∙ le-leb o next h); union = e ∙ ap (joined o) p.union; first = refl }

  one-falls : next < o → climb m (o ∷ l) ≡ false
  unfolding climb
  one-falls h = ap (λ (b : Bool). climb m l && b) (ap (leb o) (sym p.first) ∙ lt-leb o next h) ∙ and-false (climb m l)

-- of the c words from number `at` on, those from number j on
abbrev pub PassedFrom : List ℕ → ℕ → ℕ → ℕ → ℕ → ℕ → ℕ → Type 0
PassedFrom ws at c m j later next = (j ≤ c) × Passed m (drop j (take c (drop at ws))) later next

module _ (ws : List ℕ) (at c m : ℕ) (b : at + c ≤ length ws) where
  run_none : drop c (take c (drop at ws)) ≡ []
  run_none = drop_of_length-le (take c (drop at ws)) {i = c} (omega (arith, length-take c (drop at ws)))

  pub outside-none : each_outside (drop c (take c (drop at ws))) ≡ true
  unfolding each_outside
  outside-none = rw run_none refl

  pub passed_none : PassedFrom ws at c m c 0 m
  unfolding climb union_of
  passed_none = (omega arith, rw run_none (record { climbs = refl; union = refl; first = refl }))

  -- one set more, that of number i
  module _ (i later next o : ℕ) (p : PassedFrom ws at c m (i + 1) later next) (here : o ≡ get_or ws (at + i) 0) where
    pub one-before : drop i (take c (drop at ws)) ≡ o ∷ drop (i + 1) (take c (drop at ws))
    one-before = let q = p.0 in run_drop ws at c i (omega arith) b ∙ ap (λ (x : ℕ). x ∷ drop (i + 1) (take c (drop at ws))) (sym here)

    pub passed-one : {both : ℕ} → both ≡ joined o later → o ≤ next → PassedFrom ws at c m i both o
    passed-one {both} e k =
        let q = p.0 in
        (omega arith, subst (λ (l : List ℕ). Passed m l both o) (sym one-before) (one_more m o (drop (i + 1) (take c (drop at ws))) later next p.1 e k))

    pub passed-falls : next < o → climb m (drop i (take c (drop at ws))) ≡ false
    passed-falls k = ap (climb m) one-before ∙ one-falls m o (drop (i + 1) (take c (drop at ws))) later next p.1 k

  -- two of them at once
  module _ (i later next o t : ℕ) (p : PassedFrom ws at c m (i + 1 + 1) later next) (here : o ≡ get_or ws (at + i) 0) (last : t ≡ get_or ws (at + i + 1) 0) where
    last_word : t ≡ get_or ws (at + (i + 1)) 0
    last_word = let e : at + i + 1 ≡ at + (i + 1) = omega arith in last ∙ ap (λ (k : ℕ). get_or ws k 0) e

    pub last-falls : next < t → climb m (drop (i + 1) (take c (drop at ws))) ≡ false
    last-falls = passed-falls (i + 1) later next t p last_word

    module _ (k : t ≤ next) where
      last-passed : PassedFrom ws at c m (i + 1) (joined t later) t
      last-passed = passed-one (i + 1) later next t p last_word refl k

      pub passed-two : {both : ℕ} → both ≡ joined (joined o t) later → o ≤ t → PassedFrom ws at c m i both o
      passed-two e g = passed-one i (joined t later) t o last-passed here (e ∙ joined-assoc o t later) g

      pub second-falls : t < o → climb m (drop i (take c (drop at ws))) ≡ false
      second-falls g = passed-falls i (joined t later) t o last-passed here g

    -- the two held against those before them
    pub apart-two : {r : Bool} → r ≡ (has_part o (take i (drop at ws)) || has_part t (take (i + 1) (drop at ws)))
        → stand_apart (take (i + 1 + 1) (drop at ws)) ≡ (stand_apart (take i (drop at ws)) && not r)
    apart-two er =
        let q = p.0 in
        let before = take i (drop at ws) in
        let with-s = take (i + 1) (drop at ws) in
        ap stand_apart (run_take ws at (i + 1) (omega arith) ∙ ap (λ (x : ℕ). with-s ++ x ∷ []) (sym last_word))
        ∙ apart-one with-s t
        ∙ ap (λ (x : Bool). x && not (has_part t with-s)) (ap stand_apart (run_take ws at i (omega arith) ∙ ap (λ (x : ℕ). before ++ x ∷ []) (sym here)) ∙ apart-one before o)
        ∙ joint (stand_apart before) (has_part o before) (has_part t with-s)
        ∙ ap (λ (x : Bool). stand_apart before && not x) (sym er)
      where
        joint : (x y z : Bool) → ((x && not y) && not z) ≡ (x && not (y || z))
        joint true true z = refl
        joint true false z = refl
        joint false y z = refl

-- the first set, left or looked at once more, where all of them stand apart
module _ (m d : ℕ) (o : ℕ) (l : List ℕ) (a : stand_apart (o ∷ l) ≡ true) where
  from_parts : {c : Bool} {u : ℕ} → c ≡ climb m (o ∷ l) → u ≡ union_of (o ∷ l) → ((c && not (shares u d)) && not (eqb o 0)) ≡ opens_good m d (o ∷ l)
  from_parts ec eu =
      let tests : Bool = (climb m (o ∷ l) && not (shares (union_of (o ∷ l)) d)) && not (eqb o 0) in
      ap₂ (λ (x : Bool) (y : ℕ). (x && not (shares y d)) && not (eqb o 0)) ec eu
      ∙ sym (and-true tests)
      ∙ ap (λ (x : Bool). tests && x) (sym a)
      ∙ opens-parts m d (o ∷ l)

  from-passed : (k later next : ℕ) → k ≤ 1 → Passed m (drop k (o ∷ l)) later next → ((leb o next && not (shares (joined o later) d)) && not (eqb o 0)) ≡ opens_good m d (o ∷ l)
  unfolding climb union_of
  from-passed zero later next h p = from_parts (ap (leb o) p.first ∙ le-leb o o (omega arith) ∙ sym p.climbs) (ap (joined o) p.union ∙ union-first o l)
  from-passed (suc zero) later next h p = from_parts (sym (ap₂ ◌&&◌ p.climbs (ap (leb o) (sym p.first)))) (ap (joined o) p.union)
  from-passed (suc (suc k)) later next h p = absurd (omega arith)

pub passed-all : (m d : ℕ) (l : List ℕ) (o k later next : ℕ) → 0 < length l → o ≡ get_or l 0 0 → stand_apart l ≡ true → k ≤ 1 → Passed m (drop k l) later next
    → ((leb o next && not (shares (joined o later) d)) && not (eqb o 0)) ≡ opens_good m d l
passed-all m d [] o k later next h f a q p = absurd (omega arith)
passed-all m d (x ∷ l) o k later next h f a q p = rw f (from-passed m d x l a k later next q p)
