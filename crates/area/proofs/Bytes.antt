-- Good bytes are the bytes of a good state, and that state is one and the same. Assumes nothing.
use mathlib.Core.Path.{◌≡◌, sym, ap, ◌∙◌, subst⁻¹}
use mathlib.Core.List.{List, [], ◌∷◌, ◌++◌}
use mathlib.Core.Logic.{◌⊎◌, inl, inr, ⊎_elim}
use Prim.Native.Nat.{ℕ, zero, suc, ◌*◌, ◌^◌, ◌<◌}
use native.Mathlib.Nat.{lt_of_lt_of_le}
use native.Mathlib.Omega.{arith}
use lib.Dec.{T, eqb, eqb→eq, eqb_refl}
use lib.ListN.{length, get_or, replicate}
use lib.Pow.{pow_mono}
use Rattle.roles.proofs.Tests.{T_and}
use Rattle.words.specs.Words.{Bytes, words, bytes_of}
use Rattle.words.proofs.Laws.{length-words, length-bytes_of, words-bytes_of, bytes_of-words}
use Rattle.meaning.specs.Lists.{Mem}
use Rattle.meaning.specs.Rows.{most_opens}
use Rattle.meaning.proofs.ListLaws.{mem-at, mem-take, mem-append}
use Rattle.area.specs.Layout.{most_rows, content_words, body_words, area_bytes, good_area, good_bytes}
use Rattle.area.specs.State.{Entry, State, GoodState, pad, each, content, body, header, words_of, area_of, held_by, state_of}
use Rattle.area.proofs.RowLaws.{none}
use Rattle.area.proofs.Held.{length-words_of}
use Rattle.area.proofs.Rules.{area-holds, facts, held-is, state-area}

-- ---- members of the parts of an area

mem-zeros : (x n : ℕ) → Mem x (replicate n 0) → x ≡ 0
mem-zeros x zero m = absurd m
mem-zeros x (suc n) m = ⊎_elim (λ e. e) (mem-zeros x n) m

mem-pad : (x n : ℕ) (l : List ℕ) → Mem x (pad n l) → Mem x l ⊎ (x ≡ 0)
unfolding pad
mem-pad x n l m = ⊎_elim (λ k. inl k) (λ k. inr (mem-zeros x n k)) ((mem-append x l (replicate n 0)).0 (mem-take x n (l ++ replicate n 0) m))

mem-each : (f : Entry → List ℕ) (x : ℕ) (es : List Entry) → Mem x (each f es) → (i : ℕ) × (i < length es) × Mem x (f (get_or es i none))
unfolding each
mem-each f x [] m = absurd m
mem-each f x (e ∷ es) m = ⊎_elim (λ k. (0, omega arith, k)) (λ k. let r = mem-each f x es k in let h = r.1 in (suc r.0, omega arith, r.2)) ((mem-append x (f e) (each f es)).0 m)

-- ---- each word of a good state fits 64 bits

module _ (s : State) (g : GoodState s) where
  set-fits : (x : ℕ) → x < 2 ^ s.roles → x < 2 ^ 64
  set-fits x h = lt_of_lt_of_le h (pow_mono g.most-roles)

  content-fits : (x i : ℕ) → i < length s.rows → Mem x (content (get_or s.rows i none)) → x < 2 ^ 64
  content-fits x i h m =
      let v = (facts s g i h).valid in
      let w = (facts s g i h).good-row.few in
      ⊎_elim (λ e. omega arith) (⊎_elim (λ e. omega arith) (λ k. absurd k)) m

  body-fits : (x i : ℕ) → i < length s.rows → Mem x (body (get_or s.rows i none)) → x < 2 ^ 64
  body-fits x i h m =
      let good = (facts s g i h).good-row.good in
      ⊎_elim
      (λ e. subst⁻¹ (λ (y : ℕ). y < 2 ^ 64) e (set-fits (get_or s.rows i none).row.denied good.denied-below))
      (λ k. ⊎_elim (λ q. set-fits x (good.below x q)) (λ q. omega arith) (mem-pad x most_opens (get_or s.rows i none).row.opens k))
      m

  word_fits : (x : ℕ) → Mem x (words_of s) → x < 2 ^ 64
  unfolding words_of
  word_fits x m =
      let c = pad (most_rows * content_words) (each content s.rows) in
      let b = pad (most_rows * body_words) (each body s.rows) in
      let n = g.most-roles in
      let u = g.most-rows in
      let v = g.policy-small in
      ⊎_elim
      (⊎_elim (λ e. omega arith) (⊎_elim (λ e. omega arith) (⊎_elim (λ e. omega arith) (λ k. absurd k))))
      (λ k. ⊎_elim
      (λ q. ⊎_elim (λ r. let i = mem-each content x s.rows r in content-fits x i.0 i.1 i.2) (λ e. omega arith) (mem-pad x (most_rows * content_words) (each content s.rows) q))
      (λ q. ⊎_elim (λ r. let i = mem-each body x s.rows r in body-fits x i.0 i.1 i.2) (λ e. omega arith) (mem-pad x (most_rows * body_words) (each body s.rows) q))
      ((mem-append x c b).0 k))
      ((mem-append x (header s) (c ++ b)).0 m)

  pub words-area : words (area_of s) ≡ words_of s
  unfolding area_of
  words-area = words-bytes_of (words_of s) (λ i u. word_fits (get_or (words_of s) i 0) (mem-at (words_of s) i u))

  pub length-area : length (area_of s) ≡ area_bytes
  unfolding area_of
  length-area = length-bytes_of (words_of s) ∙ ap (λ (n : ℕ). n * 8) (length-words_of s)

  -- the bytes of a good state are a good area, and hold it
  pub area-good : T (good_bytes (area_of s))
  unfolding good_bytes
  area-good = (T_and (eqb (length (area_of s)) area_bytes) (good_area (words (area_of s)))).1 (
    subst⁻¹ (λ (n : ℕ). T (eqb n area_bytes)) length-area (eqb_refl area_bytes),
    subst⁻¹ (λ (ws : List ℕ). T (good_area ws)) words-area (state-area s g),
  )

  pub area-state : state_of (area_of s) ≡ s
  unfolding state_of
  area-state = ap held_by words-area ∙ held-is s g

-- ---- good bytes

module _ (l : List ℕ) (t : T (good_bytes l)) where
  good-parts : T (eqb (length l) area_bytes) × T (good_area (words l))
  unfolding good_bytes
  good-parts = (T_and (eqb (length l) area_bytes) (good_area (words l))).0 t

  pub good_length : length l ≡ area_bytes
  good_length = eqb→eq (length l) area_bytes good-parts.0

  holds : GoodState (held_by (words l)) × (words_of (held_by (words l)) ≡ words l)
  holds = area-holds (words l) (let n = good_length in omega (arith, length-words l)) good-parts.1

  -- they hold a good state
  pub good-state : GoodState (state_of l)
  unfolding state_of
  good-state = holds.0

  pub good-words : words l ≡ words_of (state_of l)
  unfolding state_of
  good-words = sym holds.1

  -- and are its bytes
  pub good-area : Bytes l → area_of (state_of l) ≡ l
  unfolding area_of
  good-area b = ap bytes_of (sym good-words) ∙ bytes_of-words l b (let n = good_length in omega arith)
