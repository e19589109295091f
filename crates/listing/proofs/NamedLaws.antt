-- A table with one name more, and tables so made: the contents and the names, with nothing between them. Assumes nothing.
use mathlib.Core.Path.{◌≡◌, refl, sym, ap, ap₂, ◌∙◌, subst}
use mathlib.Core.Bool.{true}
use mathlib.Core.List.{List, [], ◌∷◌, ◌++◌}
use mathlib.Core.Logic.{◌≢◌, by_cases}
use Prim.Native.Nat.{ℕ, zero, suc, ◌+◌, ◌*◌, ◌≤◌, ◌<◌}
use native.Mathlib.Nat.{suc-mul, add-zero}
use native.Mathlib.Decide.{dec_lt, ℕ_discrete}
use native.Mathlib.Omega.{arith}
use borrow.Author.Tests.{eq-eqb, ne_eqb, le-leb}
use lib.Dec.{T}
use lib.ListN.{length, take, drop, get_or, set, length-append, length-drop, get_or-replicate, get_or-append}
use lib.Seq.{sets, length-sets, drop-set-lt, drop-append-le, take-append-le, drop-append_seam, take-length}
use Rattle.roles.specs.Sets.{most_roles}
use Rattle.words.proofs.Runs.{get_d-sets-below, get_d-sets-behind, get_d-sets-in}
use Rattle.names.specs.Names.{contents_bytes, most_name, start_of, length_of, good_pair, good_pairs, good_table, part_at}
use Rattle.names.proofs.TableLaws.{pairs-none, pairs-more, table_is}
use Rattle.listing.specs.Listing.{pair_bytes, named, no_names, most_table}

-- ---- bytes written over others

pub drop-sets : (vs d : List ℕ) (k n : ℕ) → k + length vs ≤ n → drop n (sets d k vs) ≡ drop n d
drop-sets [] d k n h = refl
drop-sets (v ∷ vs) d k n h = drop-sets vs (set d k v) (suc k) n (omega arith) ∙ drop-set-lt n d k v (omega arith)

-- ---- one name more

module _ (t : List ℕ) (r : ℕ) (n : List ℕ) where
  pub length-named : length (named t r n) ≡ length t + length n
  unfolding named
  length-named = rw (length-append, length-sets) refl

  module _ (long : contents_bytes ≤ length t) (h : r < most_roles) where
    -- a byte of the contents is that of the pair, or as it was
    before-name : (k : ℕ) → k < length t → get_or (named t r n) k 0 ≡ get_or (sets t (r * 4) (pair_bytes (length t) (length n))) k 0
    unfolding named
    before-name k b =
        get_or-append (sets t (r * 4) (pair_bytes (length t) (length n))) n 0 k (omega (arith, length-sets t (r * 4) (pair_bytes (length t) (length n))))

    own : (k : ℕ) → k < 4 → get_or (named t r n) (r * 4 + k) 0 ≡ get_or (pair_bytes (length t) (length n)) k 0
    own k b = before-name (r * 4 + k) (omega arith) ∙ get_d-sets-in t (r * 4) (pair_bytes (length t) (length n)) k (omega arith) b

    start-own : start_of (named t r n) r ≡ length t
    unfolding start_of
    start-own =
        let a = rw add-zero at (own 0 (omega arith)) in
        let b = own 1 (omega arith) in
        omega arith

    pub length-own : length_of (named t r n) r ≡ length n
    unfolding length_of
    length-own =
        let e : r * 4 + 2 + 1 ≡ r * 4 + 3 = omega arith in
        let a = own 2 (omega arith) in
        let b = own 3 (omega arith) in
        rw e (omega arith)

    module _ (q : ℕ) (l : q < most_roles) (other : q ≢ r) where
      kept : (k : ℕ) → k < 4 → get_or (named t r n) (q * 4 + k) 0 ≡ get_or t (q * 4 + k) 0
      kept k b = before-name (q * 4 + k) (omega arith) ∙ by_cases (dec_lt q r)
          (λ c. get_d-sets-below t (r * 4) (pair_bytes (length t) (length n)) (q * 4 + k) (omega arith))
          (λ c. get_d-sets-behind t (r * 4) (pair_bytes (length t) (length n)) (q * 4 + k) (by_cases (dec_lt r q) (λ d. omega arith) (λ d. absurd (other (omega arith)))))

      start-kept : start_of (named t r n) q ≡ start_of t q
      unfolding start_of
      start-kept =
          let a = rw add-zero at (kept 0 (omega arith)) in
          let b = kept 1 (omega arith) in
          omega arith

      pub length-kept : length_of (named t r n) q ≡ length_of t q
      unfolding length_of
      length-kept =
          let e : q * 4 + 2 + 1 ≡ q * 4 + 3 = omega arith in
          let a = kept 2 (omega arith) in
          let b = kept 3 (omega arith) in
          rw e (omega arith)

      -- a name behind the contents stays
      pub part-kept : contents_bytes ≤ start_of t q → start_of t q + length_of t q ≤ length t → part_at (named t r n) q ≡ part_at t q
      unfolding part_at named
      part-kept c i =
          let u : List ℕ = sets t (r * 4) (pair_bytes (length t) (length n)) in
          let m : length u ≡ length t = length-sets t (r * 4) (pair_bytes (length t) (length n)) in
          let k : drop (start_of t q) u ≡ drop (start_of t q) t = drop-sets (pair_bytes (length t) (length n)) t (r * 4) (start_of t q) (omega arith) in
          ap₂ (λ (x y : ℕ). take x (drop y (u ++ n))) length-kept start-kept
          ∙ ap (take (length_of t q)) (drop-append-le (start_of t q) u n (omega arith))
          ∙ take-append-le (length_of t q) (drop (start_of t q) u) n (omega (arith, length-drop (start_of t q) u))
          ∙ ap (take (length_of t q)) k

    pub part-own : part_at (named t r n) r ≡ n
    unfolding part_at named
    part-own =
        let u : List ℕ = sets t (r * 4) (pair_bytes (length t) (length n)) in
        let m : length t ≡ length u = sym (length-sets t (r * 4) (pair_bytes (length t) (length n))) in
        ap₂ (λ (x y : ℕ). take x (drop y (u ++ n))) length-own (start-own ∙ m)
        ∙ ap (take (length n)) (drop-append_seam u n)
        ∙ take-length n

-- ---- tables so made

-- what the lengths of the names of all roles below k come to, where a length of x counts as f x
unfoldable pub total : (ℕ → ℕ) → ℕ → List ℕ → ℕ
total f zero t = 0
total f (suc k) t = total f k t + f (length_of t k)

abbrev pub itself : ℕ → ℕ
itself x = x

-- each name lies behind the contents, and the names have all bytes there
pub record Packed (t : List ℕ) : Type 0 where
  pub short : (q : ℕ) → q < most_roles → length_of t q ≤ most_name
  pub start : (q : ℕ) → q < most_roles → length_of t q ≢ 0 → contents_bytes ≤ start_of t q
  pub inside : (q : ℕ) → q < most_roles → length_of t q ≢ 0 → start_of t q + length_of t q ≤ length t
  pub full : length t ≡ contents_bytes + total itself most_roles t

module _ {t : List ℕ} (p : Packed t) where
  pub packed-long : contents_bytes ≤ length t
  packed-long = let f = p.full in omega arith

  pub total-most : (f : ℕ → ℕ) (m : ℕ) → ((x : ℕ) → x ≤ most_name → f x ≤ m) → (k : ℕ) → k ≤ most_roles → total f k t ≤ k * m
  unfolding total
  total-most f m b zero h = omega arith
  total-most f m b (suc k) h = omega (arith, total-most f m b k (omega arith), b (length_of t k) (p.short k (omega arith)), suc-mul k m)

  pub packed-most : length t ≤ most_table
  packed-most = let f = p.full in let m = total-most itself most_name (λ x h. h) most_roles (omega arith) in omega arith

  good-pair : (q : ℕ) → q < most_roles → good_pair t q ≡ true
  unfolding good_pair
  good-pair q h = go (ℕ_discrete (length_of t q) 0)
    where
      go : Dec (length_of t q ≡ 0) → good_pair t q ≡ true
      go (yes z) = rw (eq-eqb (length_of t q) 0 z) refl
      go (no z) = rw (ne_eqb (length_of t q) 0 z, le-leb (length_of t q) most_name (p.short q h), le-leb (start_of t q + length_of t q) (length t) (p.inside q h z)) refl

  good-pairs : (k : ℕ) → k ≤ most_roles → good_pairs k t ≡ true
  good-pairs zero h = pairs-none t
  good-pairs (suc k) h = pairs-more t k (good-pairs k (omega arith)) (good-pair k (omega arith))

  pub packed-good : T (good_table t)
  packed-good = subst T (table_is t true packed-long (good-pairs most_roles (omega arith))) tt

-- the table without names

pub none_named : (q : ℕ) → q < most_roles → length_of no_names q ≡ 0
unfolding length_of
none_named q h =
    rw (get_or-replicate {A = ℕ} contents_bytes (q * 4 + 2) 0 0 (omega arith), get_or-replicate {A = ℕ} contents_bytes (q * 4 + 2 + 1) 0 0 (omega arith)) refl

pub total-none : (f : ℕ → ℕ) → f 0 ≡ 0 → (k : ℕ) → k ≤ most_roles → total f k no_names ≡ 0
unfolding total
total-none f z zero h = refl
total-none f z (suc k) h = let a = total-none f z k (omega arith) in let b = ap f (none_named k (omega arith)) in omega arith

pub packed_none : Packed no_names
packed_none = record {
  short = λ q h. let e = none_named q h in omega arith;
  start = λ q h n. absurd (n (none_named q h));
  inside = λ q h n. absurd (n (none_named q h));
  full = let e = total-none itself refl most_roles (omega arith) in omega arith;
}

-- one name more

module _ {t : List ℕ} (p : Packed t) (r : ℕ) (h : r < most_roles) (free : length_of t r ≡ 0) (n : List ℕ) where
  -- what is said of the new name and of those that stay holds of all
  each : (P : ℕ → ℕ → ℕ → Type 0) → P r (length t) (length n) → ((q : ℕ) → q < most_roles → P q (start_of t q) (length_of t q))
      → (q : ℕ) → q < most_roles → P q (start_of (named t r n) q) (length_of (named t r n) q)
  each P new old q l = go (ℕ_discrete q r)
    where
      go : Dec (q ≡ r) → P q (start_of (named t r n) q) (length_of (named t r n) q)
      go (yes e) = rw (e, start-own t r n (packed-long p) h, length-own t r n (packed-long p) h) new
      go (no e) = rw (start-kept t r n (packed-long p) h q l e, length-kept t r n (packed-long p) h q l e) (old q l)

  module _ (f : ℕ → ℕ) (none : f 0 ≡ 0) where
    total-before : (k : ℕ) → k ≤ r → total f k (named t r n) ≡ total f k t
    unfolding total
    total-before zero l = refl
    total-before (suc k) l =
        let a = total-before k (omega arith) in
        let b = ap f (length-kept t r n (packed-long p) h k (omega arith) (λ e. omega arith)) in
        omega arith

    total-behind : (k : ℕ) → r < k → k ≤ most_roles → total f k (named t r n) ≡ total f k t + f (length n)
    unfolding total
    total-behind zero l m = absurd (omega arith)
    total-behind (suc k) l m = by_cases (dec_lt r k)
        (λ x.
        let a = total-behind k x (omega arith) in
        let b = ap f (length-kept t r n (packed-long p) h k (omega arith) (λ e. omega arith)) in
        omega arith)
        (λ x.
        let e : k ≡ r = omega arith in
        let a = total-before k (omega arith) in
        let b : f (length_of (named t r n) k) ≡ f (length n) = rw e (ap f (length-own t r n (packed-long p) h)) in
        let c : f (length_of t k) ≡ 0 = rw (e, free) none in
        omega arith)

    pub total-named : total f most_roles (named t r n) ≡ total f most_roles t + f (length n)
    total-named = total-behind most_roles (omega arith) (omega arith)

  pub packed-named : 1 ≤ length n → length n ≤ most_name → Packed (named t r n)
  packed-named a b =
      let m = length-named t r n in
      let long = packed-long p in
      record {
        short = each (λ q s l. l ≤ most_name) b p.short;
        start = each (λ q s l. l ≢ 0 → contents_bytes ≤ s) (λ z. long) p.start;
        inside = each (λ q s l. l ≢ 0 → s + l ≤ length (named t r n)) (λ z. omega arith) (λ q l z. let i = p.inside q l z in omega arith);
        full = let f = p.full in let g = total-named itself refl in omega arith;
      }
