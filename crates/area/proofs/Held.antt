-- The words of a state hold that state, and words with nothing unused in them are those of the state that they hold. Assumes nothing.
use mathlib.Core.Path.{◌≡◌, refl, sym, ap, ap₂, ◌∙◌}
use mathlib.Core.List.{List, [], ◌∷◌, ◌++◌}
use Prim.Native.Nat.{ℕ, suc, ◌*◌, ◌≤◌, ◌<◌}
use native.Mathlib.Nat.{zero-add, zero-mul}
use native.Mathlib.Omega.{arith}
use lib.Dec.{T}
use lib.ListN.{length, get_or, take, drop, length-append, length-take, length-drop, take-append-drop}
use lib.Seq.{take_at, drop_at, drop-drop, length-take-le}
use Rattle.words.specs.Words.{all_zero}
use Rattle.meaning.specs.Rows.{most_opens}
use Rattle.area.specs.Layout.{most_rows, content_words, body_words, contents_at, bodies_at, area_words, role_count, rows_used, policy_state, contents, bodies, content_at, body_at, permission_at, count_at, denied_at, places_at, opens_at}
use Rattle.area.specs.State.{Entry, State, pad, each, content, body, header, words_of, entry_at, entries_from, held_by}
use Rattle.area.proofs.RowLaws.{none}
use Rattle.area.proofs.Cells.{length-pad, pad-short, pad-take, pad-front, length-each, each_read, each-cells, length-entries, entries-are}

pub content-wide : (e : Entry) → length (content e) ≡ content_words
content-wide e = refl

pub body-wide : (e : Entry) → length (body e) ≡ body_words
body-wide e = ap suc (length-pad most_opens e.row.opens)

-- ---- the parts of a state's words

module _ (s : State) where
  pub length-words_of : length (words_of s) ≡ area_words
  unfolding words_of
  length-words_of =
      length-append (header s) (pad (most_rows * content_words) (each content s.rows) ++ pad (most_rows * body_words) (each body s.rows))
      ∙ omega (
        arith,
        length-append (pad (most_rows * content_words) (each content s.rows)) (pad (most_rows * body_words) (each body s.rows)),
        length-pad (most_rows * content_words) (each content s.rows),
        length-pad (most_rows * body_words) (each body s.rows),
      )

  pub contents-is : contents (words_of s) ≡ pad (most_rows * content_words) (each content s.rows)
  unfolding words_of
  contents-is =
      let c = pad (most_rows * content_words) (each content s.rows) in
      let b = pad (most_rows * body_words) (each body s.rows) in
      ap (take (most_rows * content_words)) (drop_at (header s) (c ++ b) contents_at refl)
      ∙ take_at c b (most_rows * content_words) (length-pad (most_rows * content_words) (each content s.rows))

  pub bodies-is : bodies (words_of s) ≡ pad (most_rows * body_words) (each body s.rows)
  unfolding words_of
  bodies-is =
      let c = pad (most_rows * content_words) (each content s.rows) in
      let b = pad (most_rows * body_words) (each body s.rows) in
      sym (drop-drop (most_rows * content_words) contents_at (header s ++ (c ++ b)))
      ∙ ap (drop (most_rows * content_words)) (drop_at (header s) (c ++ b) contents_at refl)
      ∙ drop_at c b (most_rows * content_words) (length-pad (most_rows * content_words) (each content s.rows))

  pub roles-is : role_count (words_of s) ≡ s.roles
  unfolding words_of
  roles-is = refl

  pub policy-is : policy_state (words_of s) ≡ s.policy
  unfolding words_of
  policy-is = refl

  pub used-is : rows_used (words_of s) ≡ length s.rows
  unfolding words_of
  used-is = refl

  module _ (most : length s.rows ≤ most_rows) where
    few-contents : length (each content s.rows) ≤ most_rows * content_words
    few-contents = omega (arith, length-each content content_words content-wide s.rows)

    few-bodies : length (each body s.rows) ≤ most_rows * body_words
    few-bodies = omega (arith, length-each body body_words body-wide s.rows)

    module _ (i : ℕ) (h : i < length s.rows) where
      pub content-is : content_at (words_of s) i ≡ content (get_or s.rows i none)
      content-is =
          ap (λ (l : List ℕ). take content_words (drop (i * content_words) l)) (contents-is ∙ pad-short (most_rows * content_words) (each content s.rows) few-contents)
          ∙ each_read content content_words content-wide s.rows _ i h

      pub body_is : body_at (words_of s) i ≡ body (get_or s.rows i none)
      body_is =
          ap (λ (l : List ℕ). take body_words (drop (i * body_words) l)) (bodies-is ∙ pad-short (most_rows * body_words) (each body s.rows) few-bodies)
          ∙ each_read body body_words body-wide s.rows _ i h

      pub entry-is : length (get_or s.rows i none).row.opens ≤ most_opens → entry_at (words_of s) i ≡ get_or s.rows i none
      entry-is few =
          let opens : opens_at (words_of s) i ≡ (get_or s.rows i none).row.opens =
          ap₂ (λ (c b : List ℕ). take (get_or c 1 0) (drop 1 b)) content-is body_is ∙ pad-front most_opens (get_or s.rows i none).row.opens few in
          λ t. record {
            permission = get_or (content-is t) 0 0;
            row = record { denied = get_or (body_is t) 0 0; opens = opens t };
          }

  -- a state is what its words hold
  pub held-words : length s.rows ≤ most_rows → ((i : ℕ) → i < length s.rows → length (get_or s.rows i none).row.opens ≤ most_opens) → held_by (words_of s) ≡ s
  unfolding held_by
  held-words most few =
      let rows : entries_from (words_of s) 0 (rows_used (words_of s)) ≡ s.rows =
      ap (entries_from (words_of s) 0) used-is
      ∙ entries-are (words_of s) s.rows 0 (λ k u. ap (entry_at (words_of s)) (zero-add k) ∙ entry-is most k u (few k u)) in
      λ t. record { roles = roles-is t; policy = policy-is t; rows = rows t }

-- ---- the state that words hold

module _ (ws : List ℕ) (long : length ws ≡ area_words) (used : rows_used ws ≤ most_rows) where
  contents-long : length (contents ws) ≡ most_rows * content_words
  contents-long = length-take (most_rows * content_words) (drop contents_at ws) ∙ omega (arith, length-drop contents_at ws)

  bodies-long : length (bodies ws) ≡ most_rows * body_words
  bodies-long = length-drop bodies_at ws ∙ omega arith

  module _ (i : ℕ) (h : i < rows_used ws) where
    content-long : length (content_at ws i) ≡ content_words
    content-long = length-take content_words (drop (i * content_words) (contents ws)) ∙ omega (arith, length-drop (i * content_words) (contents ws), contents-long)

    body-long : length (body_at ws i) ≡ body_words
    body-long = length-take body_words (drop (i * body_words) (bodies ws)) ∙ omega (arith, length-drop (i * body_words) (bodies ws), bodies-long)

    places-long : length (places_at ws i) ≡ most_opens
    places-long = length-drop 1 (body_at ws i) ∙ omega (arith, body-long)

    pub opens-long : count_at ws i ≤ most_opens → length (opens_at ws i) ≡ count_at ws i
    opens-long few = length-take-le (count_at ws i) (places_at ws i) (omega (arith, places-long))

    two : (l : List ℕ) → length l ≡ content_words → get_or l 0 0 ∷ get_or l 1 0 ∷ [] ≡ l
    two (x ∷ y ∷ []) e = refl
    two [] e = absurd (let z : ⊥ = omega arith in z)
    two (x ∷ []) e = absurd (let z : ⊥ = omega arith in z)
    two (x ∷ y ∷ z ∷ l) e = absurd (let z : ⊥ = omega arith in z)

    first : (l : List ℕ) → length l ≡ body_words → get_or l 0 0 ∷ drop 1 l ≡ l
    first [] e = absurd (let z : ⊥ = omega arith in z)
    first (x ∷ l) e = refl

    content-back : count_at ws i ≤ most_opens → content (entry_at ws i) ≡ content_at ws i
    content-back few = ap (λ (c : ℕ). permission_at ws i ∷ c ∷ []) (opens-long few) ∙ two (content_at ws i) content-long

    body_back : count_at ws i ≤ most_opens → T (all_zero (drop (count_at ws i) (places_at ws i))) → body (entry_at ws i) ≡ body_at ws i
    body_back few z = ap (λ (l : List ℕ). denied_at ws i ∷ l) (pad-take most_opens (count_at ws i) (places_at ws i) places-long few z) ∙ first (body_at ws i) body-long

  -- words are those of the state that they hold, where nothing unused stands in them
  pub words-held : ((i : ℕ) → i < rows_used ws → (count_at ws i ≤ most_opens) × T (all_zero (drop (count_at ws i) (places_at ws i))))
      → T (all_zero (drop (rows_used ws * content_words) (contents ws))) → T (all_zero (drop (rows_used ws * body_words) (bodies ws)))
      → words_of (held_by ws) ≡ ws
  unfolding words_of held_by
  words-held rows zc zb =
      let es = entries_from ws 0 (rows_used ws) in
      let u = rows_used ws in
      let cs : each content es ≡ take (u * content_words) (contents ws) =
      each-cells content content_words content-wide ws (contents ws) 0 u (λ j a b. content-back j (omega arith) (rows j (omega arith)).0)
      ∙ ap (λ (k : ℕ). take (u * content_words) (drop k (contents ws))) (zero-mul content_words) in
      let bs : each body es ≡ take (u * body_words) (bodies ws) =
      each-cells body body_words body-wide ws (bodies ws) 0 u (λ j a b. let r = rows j (omega arith) in body_back j (omega arith) r.0 r.1)
      ∙ ap (λ (k : ℕ). take (u * body_words) (drop k (bodies ws))) (zero-mul body_words) in
      let c : pad (most_rows * content_words) (each content es) ≡ contents ws =
      ap (pad (most_rows * content_words)) cs ∙ pad-take (most_rows * content_words) (u * content_words) (contents ws) contents-long (omega arith) zc in
      let b : pad (most_rows * body_words) (each body es) ≡ bodies ws =
      ap (pad (most_rows * body_words)) bs ∙ pad-take (most_rows * body_words) (u * body_words) (bodies ws) bodies-long (omega arith) zb in
      ap₂ (λ (n : ℕ) (l : List ℕ). role_count ws ∷ n ∷ policy_state ws ∷ l) (length-entries ws 0 u) (
      ap₂ (λ (x y : List ℕ). x ++ y) c (b ∙ sym (drop-drop (most_rows * content_words) contents_at ws))
      ∙ take-append-drop (most_rows * content_words) (drop contents_at ws)
      )
      ∙ split ws long
    where
      split : (l : List ℕ) → length l ≡ area_words → get_or l 0 0 ∷ get_or l 1 0 ∷ get_or l 2 0 ∷ drop contents_at l ≡ l
      split [] e = absurd (let z : ⊥ = omega arith in z)
      split (x ∷ []) e = absurd (let z : ⊥ = omega arith in z)
      split (x ∷ y ∷ []) e = absurd (let z : ⊥ = omega arith in z)
      split (x ∷ y ∷ z ∷ l) e = refl
