-- What the functions of the check cite: runs of words in the layout, rows of zeros, and the rules as tests. Assumes nothing.
use mathlib.Core.Path.{◌≡◌, refl, sym, ap, ap₂, ◌∙◌, subst, subst⁻¹}
use mathlib.Core.Bool.{Bool, true, false, ◌&&◌, and-true, and-false, and_assoc}
use mathlib.Core.List.{List}
use Prim.Native.Nat.{ℕ, zero, suc, ◌+◌, ◌-◌, ◌*◌, ◌≤◌, ◌<◌}
use native.Mathlib.Numerals.{add-one}
use native.Mathlib.Nat.{add-zero, add-mul}
use native.Mathlib.Omega.{arith}
use borrow.Author.Tests.{le-leb, lt-leb}
use lib.Dec.{T, ltb, leb, ltb→lt, le→leb, leb→le}
use lib.ListN.{length, get_or, take, drop, length-take, length-drop}
use lib.Seq.{take_all, take-take, drop-drop, get_or-take, get_or-drop}
use Rattle.words.specs.Words.{words, all_zero}
use Rattle.words.proofs.Laws.{length-words}
use Rattle.words.proofs.Runs.{drop-run, all_zero-split}
use Rattle.roles.specs.Sets.{all_below, most_roles}
use Rattle.roles.proofs.Tests.{T_and, T-ext}
use Rattle.meaning.specs.Rows.{most_opens}
use Rattle.meaning.specs.Events.{last_permission, last_policy_state}
use Rattle.opens.specs.Opens.{places_good, says, body_good}
use Rattle.opens.proofs.OpenRules.{all_of-law}
use Rattle.area.specs.Layout.{most_rows, area_words, area_bytes, content_words, body_words, contents_at, bodies_at, role_count, rows_used, policy_state, contents, bodies, permission_at, count_at, denied_at, places_at, permission_before, each_below, row_rules, good_row_at, good_area}
use Rattle.area.specs.Parts.{good_but_wide, zero_rows}
use Rattle.area.proofs.Rules.{each_below-law}

-- tests as code joins them, and as a list of rules does
regrouped : (a c d s o : Bool) → (((a && c) && d) && (s && o)) ≡ (a && (c && (d && (s && (o && true)))))
regrouped a c d s o = and_assoc (a && c) d (s && o) ∙ and_assoc a c (d && (s && o)) ∙ ap (λ (x : Bool). a && (c && (d && (s && x)))) (sym (and-true o))

pub area-long : (l : List ℕ) → length l ≡ area_bytes → length (words l) ≡ area_words
area-long l e = omega (arith, length-words l)

-- ---- the parts of an area

module _ (ws : List ℕ) (i : ℕ) (h : i < most_rows) where
  content-run : drop (i * content_words) (contents ws) ≡ take (most_rows * content_words - i * content_words) (drop (contents_at + i * content_words) ws)
  content-run = drop-run (most_rows * content_words) contents_at (i * content_words) ws (omega arith)

  content-word : (k : ℕ) → k < content_words → get_or ws (contents_at + i * content_words + k) 0 ≡ get_or (take content_words (drop (i * content_words) (contents ws))) k 0
  content-word k b =
      sym (get_or-take content_words (drop (i * content_words) (contents ws)) k 0 b
      ∙ ap (λ (l : List ℕ). get_or l k 0) content-run
      ∙ get_or-take (most_rows * content_words - i * content_words) (drop (contents_at + i * content_words) ws) k 0 (omega arith)
      ∙ get_or-drop (contents_at + i * content_words) ws k 0)

  pub permission-word : get_or ws (contents_at + i * content_words) 0 ≡ permission_at ws i
  permission-word = rw add-zero at (content-word 0 (omega arith))

  pub count_word : get_or ws (contents_at + i * content_words + 1) 0 ≡ count_at ws i
  count_word = content-word 1 (omega arith)

  body_run : drop (i * body_words) (bodies ws) ≡ drop (bodies_at + i * body_words) ws
  body_run = drop-drop (i * body_words) bodies_at ws

  pub denied-word : get_or ws (bodies_at + i * body_words) 0 ≡ denied_at ws i
  denied-word =
      sym (get_or-take body_words (drop (i * body_words) (bodies ws)) 0 0 (omega arith)
      ∙ ap (λ (l : List ℕ). get_or l 0 0) body_run
      ∙ get_or-drop (bodies_at + i * body_words) ws 0 0
      ∙ ap (λ (k : ℕ). get_or ws k 0) (add-zero (bodies_at + i * body_words)))

  pub places-run : places_at ws i ≡ take most_opens (drop (bodies_at + i * body_words + 1) ws)
  places-run = ap (λ (l : List ℕ). drop 1 (take body_words l)) body_run ∙ drop-run body_words (bodies_at + i * body_words) 1 ws (omega arith)

-- ---- rows of zeros

module _ (ws : List ℕ) (i n : ℕ) (h : i + n ≤ most_rows) where
  zero-contents : take (n * content_words) (drop (i * content_words) (contents ws)) ≡ take (n * content_words) (drop (contents_at + i * content_words) ws)
  zero-contents =
      ap (take (n * content_words)) (drop-run (most_rows * content_words) contents_at (i * content_words) ws (omega arith))
      ∙ take-take (n * content_words) (most_rows * content_words - i * content_words) (drop (contents_at + i * content_words) ws) (omega arith)

  pub zero-rows : (all_zero (take (n * content_words) (drop (contents_at + i * content_words) ws)) && all_zero (take (n * body_words) (drop (bodies_at + i * body_words) ws))) ≡ zero_rows ws i n
  unfolding zero_rows
  zero-rows = ap₂ (λ (l k : List ℕ). all_zero l && all_zero k) (sym zero-contents) (ap (take (n * body_words)) (sym (drop-drop (i * body_words) bodies_at ws)))

swapped : (a b c d : Bool) → ((a && b) && (c && d)) ≡ ((a && c) && (b && d))
swapped true true c d = refl
swapped true false true d = refl
swapped true false false d = refl
swapped false b c d = refl

-- rows of zeros are some, and others behind them
zero-split : (ws : List ℕ) (i k n : ℕ) → zero_rows ws i (k + n) ≡ (zero_rows ws i k && zero_rows ws (i + k) n)
unfolding zero_rows
zero-split ws i k n =
    ap₂ ◌&&◌ (split content_words (contents ws)) (split body_words (bodies ws))
    ∙ swapped (zeros content_words (contents ws) i k) (zeros content_words (contents ws) (i + k) n) (zeros body_words (bodies ws) i k) (zeros body_words (bodies ws) (i + k) n)
  where
    zeros : ℕ → List ℕ → ℕ → ℕ → Bool
    zeros w l i n = all_zero (take (n * w) (drop (i * w) l))

    split : (w : ℕ) (l : List ℕ) → zeros w l i (k + n) ≡ (zeros w l i k && zeros w l (i + k) n)
    split w l =
        ap (λ (m : ℕ). all_zero (take m (drop (i * w) l))) (add-mul k n w)
        ∙ all_zero-split (k * w) (n * w) (drop (i * w) l)
        ∙ ap (λ (m : List ℕ). zeros w l i k && all_zero (take (n * w) m)) (drop-drop (k * w) (i * w) l ∙ ap (λ (m : ℕ). drop m l) (sym (add-mul i k w)))

-- of n rows the first k are looked at first
pub zero_more : (ws : List ℕ) (i k n : ℕ) (b : Bool) → zero_rows ws i k ≡ b → k ≤ n → zero_rows ws i n ≡ (b && zero_rows ws (i + k) (n - k))
zero_more ws i k n b e h =
    let q : n ≡ k + (n - k) = omega arith in
    ap (zero_rows ws i) q ∙ zero-split ws i k (n - k) ∙ ap (λ (t : Bool). t && zero_rows ws (i + k) (n - k)) e

-- the rest is zeros
zero_rest : (ws : List ℕ) (used : ℕ) → used ≤ most_rows → length ws ≡ area_words
    → zero_rows ws used (most_rows - used) ≡ (all_zero (drop (used * content_words) (contents ws)) && all_zero (drop (used * body_words) (bodies ws)))
unfolding zero_rows
zero_rest ws used h e =
    ap₂ (λ (l k : List ℕ). all_zero l && all_zero k)
    (take_all ((most_rows - used) * content_words) (drop (used * content_words) (contents ws))
    (omega (arith, length-drop (used * content_words) (contents ws), length-take (most_rows * content_words) (drop contents_at ws))))
    (take_all ((most_rows - used) * body_words) (drop (used * body_words) (bodies ws)) (omega (arith, length-drop (used * body_words) (bodies ws), length-drop bodies_at ws)))

-- ---- rows and area, from their tests

-- the words of row i that are read, the tests that need no open set, and the test of the body
pub row_made : (ws : List ℕ) (i : ℕ) → i < most_rows → (b : Bool) {last p c d m : ℕ} {body : Bool} → p ≡ get_or ws (contents_at + i * content_words) 0
    → c ≡ get_or ws (contents_at + i * content_words + 1) 0 → d ≡ get_or ws (bodies_at + i * body_words) 0 → last ≡ permission_before ws i → m ≡ all_below (role_count ws)
    → ((ltb last p && leb c most_opens) && leb d m) ≡ b
    → body ≡ body_good m d c (take most_opens (drop (bodies_at + i * body_words + 1) ws)) → (b && body) ≡ good_but_wide ws i
unfolding good_but_wide body_good
row_made ws i h b {last} {p} {c} {d} {m} wp wc wd el em eb eo =
    let ep = wp ∙ permission-word ws i h in
    let ec = wc ∙ count_word ws i h in
    let ed = wd ∙ denied-word ws i h in
    ap₂ ◌&&◌ (sym eb) (eo ∙ ap (body_good m d c) (sym (places-run ws i h)))
    ∙ regrouped (ltb last p) (leb c most_opens) (leb d m) (says d c) (places_good m d c (places_at ws i))
    ∙ rw (em, el, ep, ec, ed)

-- ---- permissions ascend: where the last one is valid, all are

module _ (ws : List ℕ) where
  good-wide : (i : ℕ) → good_row_at ws i ≡ (leb (permission_at ws i) last_permission && good_but_wide ws i)
  unfolding good_row_at good_but_wide
  good-wide i = refl

  wide-above : (i : ℕ) → T (good_but_wide ws i) → permission_before ws i < permission_at ws i
  unfolding good_but_wide
  wide-above i t = ltb→lt (permission_before ws i) (permission_at ws i) ((all_of-law (drop 1 (row_rules ws i))).0 t).0

  each⇒wide : (n : ℕ) → T (each_below n (good_row_at ws)) → T (each_below n (good_but_wide ws)) × T (leb (permission_before ws n) last_permission)
  unfolding permission_before
  each⇒wide zero t = (tt, le→leb 0 last_permission (omega arith))
  each⇒wide (suc n) t =
      let p = (T_and (each_below n (good_row_at ws)) (good_row_at ws n)).0 t in
      let q = (T_and (leb (permission_at ws n) last_permission) (good_but_wide ws n)).0 (subst T (good-wide n) p.1) in
      ((T_and (each_below n (good_but_wide ws)) (good_but_wide ws n)).1 ((each⇒wide n p.0).0, q.1), q.0)

  wide⇒each : (n : ℕ) → T (each_below n (good_but_wide ws)) → T (leb (permission_before ws n) last_permission) → T (each_below n (good_row_at ws))
  unfolding permission_before
  wide⇒each zero t h = tt
  wide⇒each (suc n) t h =
      let p = (T_and (each_below n (good_but_wide ws)) (good_but_wide ws n)).0 t in
      let a = wide-above n p.1 in
      let b = leb→le (permission_at ws n) last_permission h in
      (T_and (each_below n (good_row_at ws)) (good_row_at ws n)).1 (
        wide⇒each n p.0 (le→leb (permission_before ws n) last_permission (omega arith)),
        subst⁻¹ T (good-wide n) ((T_and (leb (permission_at ws n) last_permission) (good_but_wide ws n)).1 (h, p.1)),
      )

  pub rows_made : (n last : ℕ) → last ≡ permission_before ws n → true ≡ each_below n (good_but_wide ws) → leb last last_permission ≡ each_below n (good_row_at ws)
  rows_made n last e t = T-ext (leb last last_permission) (each_below n (good_row_at ws)) (
    (λ h. wide⇒each n (subst T t tt) (subst (λ (x : ℕ). T (leb x last_permission)) e h)),
    λ h. subst⁻¹ (λ (x : ℕ). T (leb x last_permission)) e (each⇒wide n h).1,
  )

  -- a row that fails another test is not good
  pub row-fails : (i : ℕ) → good_but_wide ws i ≡ false → good_row_at ws i ≡ false
  row-fails i e = good-wide i ∙ ap (λ (b : Bool). leb (permission_at ws i) last_permission && b) e ∙ and-false (leb (permission_at ws i) last_permission)

pub each_more : (p : ℕ → Bool) (k : ℕ) {b q : Bool} → b ≡ each_below k p → q ≡ p k → (b && q) ≡ each_below (k + 1) p
each_more p k e f = rw add-one (cc)

pub each-broken : (p : ℕ → Bool) (k n : ℕ) → k < n → p k ≡ false → false ≡ each_below n p
each-broken p k n h e = T-ext false (each_below n p) ((λ t. absurd t), λ t. subst T e ((each_below-law n p).0 t k h))

pub before_more : (ws : List ℕ) (i : ℕ) {p : ℕ} → p ≡ permission_at ws i → p ≡ permission_before ws (i + 1)
unfolding permission_before
before_more ws i e = rw add-one e

-- the guards of the header
module _ (ws : List ℕ) where
  pub no-roles : role_count ws < 1 → false ≡ good_area ws
  unfolding good_area
  no-roles h = rw (lt-leb 1 (role_count ws) h)

  pub many-roles : 1 ≤ role_count ws → most_roles < role_count ws → false ≡ good_area ws
  unfolding good_area
  many-roles h k = rw (le-leb 1 (role_count ws) h, lt-leb (role_count ws) most_roles k)

  pub many-rows : 1 ≤ role_count ws → role_count ws ≤ most_roles → most_rows < rows_used ws → false ≡ good_area ws
  unfolding good_area
  many-rows h k m = rw (le-leb 1 (role_count ws) h, le-leb (role_count ws) most_roles k, lt-leb (rows_used ws) most_rows m)

  pub wide-policy : 1 ≤ role_count ws → role_count ws ≤ most_roles → rows_used ws ≤ most_rows → last_policy_state < policy_state ws → false ≡ good_area ws
  unfolding good_area
  wide-policy h k m p = rw (le-leb 1 (role_count ws) h, le-leb (role_count ws) most_roles k, le-leb (rows_used ws) most_rows m, lt-leb (policy_state ws) last_policy_state p)

pub area-made : (ws : List ℕ) {rows rest : Bool} → 1 ≤ role_count ws → role_count ws ≤ most_roles → rows_used ws ≤ most_rows → policy_state ws ≤ last_policy_state → length ws ≡ area_words
    → rows ≡ each_below (rows_used ws) (good_row_at ws) → rest ≡ zero_rows ws (rows_used ws) (most_rows - rows_used ws) → (rows && rest) ≡ good_area ws
unfolding good_area
area-made ws {rows} {rest} h₁ h₂ h₃ h₄ long er ez =
    rw (
      er,
      ez,
      zero_rest ws (rows_used ws) h₃ long,
      le-leb 1 (role_count ws) h₁,
      le-leb (role_count ws) most_roles h₂,
      le-leb (rows_used ws) most_rows h₃,
      le-leb (policy_state ws) last_policy_state h₄,
      and-true (all_zero (drop (rows_used ws * body_words) (bodies ws))),
    )
