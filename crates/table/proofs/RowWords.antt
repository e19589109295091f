-- What the words of a good area say of its rows. Assumes nothing.
use mathlib.Core.Path.{◌≡◌, refl, sym, ap, ◌∙◌}
use mathlib.Core.List.{List, [], ◌∷◌, ◌++◌, append_assoc}
use Prim.Native.Nat.{ℕ, ◌+◌, ◌-◌, ◌*◌, ◌≤◌, ◌<◌}
use native.Mathlib.Omega.{arith}
use lib.Dec.{T}
use lib.ListN.{length, get_or, take, drop, replicate, replicate-append-replicate}
use lib.Seq.{take-append-add}
use Rattle.words.specs.Words.{words}
use Rattle.meaning.specs.Rows.{most_opens}
use Rattle.area.specs.Layout.{most_rows, role_count_at, rows_used_at, policy_state_at, content_words, body_words, contents_at, bodies_at, rows_used, content_at, body_at, good_bytes}
use Rattle.area.specs.State.{pad, content, body, words_of, held_by, state_of}
use Rattle.area.proofs.Cells.{take-zeros, pad-short}
use Rattle.area.proofs.Rules.{few-opens}
use Rattle.area.proofs.Held.{content-is, body_is, used-is}
use Rattle.area.proofs.CheckLaws.{permission-word, count_word, denied-word, places-run}
use Rattle.area.proofs.Bytes.{good_length, good-state, good-words}
use Rattle.rows.specs.Stored.{places, padded, held, Tidy}
use Rattle.rows.specs.declared.OpenSets.{OpenSets}
use Rattle.rows.proofs.Padded.{tidy-sets, tidy-count}
use Rattle.table.specs.Table.{rows_in, Sound, nth}

-- good bytes are sound
pub sound : (l : List ℕ) → T (good_bytes l) → Sound l
sound l t = record { good = t; size = good_length l t; few = (good-state l t).most-rows }

-- ---- a good area's words

pub roles-read : (l : List ℕ) → get_or (words l) role_count_at 0 ≡ (state_of l).roles
unfolding state_of held_by
roles-read l = refl

pub policy-read : (l : List ℕ) → get_or (words l) policy_state_at 0 ≡ (state_of l).policy
unfolding state_of held_by
policy-read l = refl

module _ (l : List ℕ) (s : Sound l) where
  is : words l ≡ words_of (state_of l)
  is = good-words l s.good

  pub used-read : get_or (words l) rows_used_at 0 ≡ length (rows_in l)
  used-read = ap rows_used is ∙ used-is (state_of l)

  module _ (i : ℕ) (h : i < length (rows_in l)) where
    few : i < most_rows
    few = let m = s.few in omega arith

    content-read : content_at (words l) i ≡ content (nth i (rows_in l))
    content-read = ap (λ (v : List ℕ). content_at v i) is ∙ content-is (state_of l) s.few i h

    body-read : body_at (words l) i ≡ body (nth i (rows_in l))
    body-read = ap (λ (v : List ℕ). body_at v i) is ∙ body_is (state_of l) s.few i h

    pub permission-read : get_or (words l) (contents_at + i * content_words) 0 ≡ (nth i (rows_in l)).permission
    permission-read = permission-word (words l) i few ∙ ap (λ (v : List ℕ). get_or v 0 0) content-read

    pub count-read : get_or (words l) (contents_at + i * content_words + 1) 0 ≡ length (nth i (rows_in l)).row.opens
    count-read = count_word (words l) i few ∙ ap (λ (v : List ℕ). get_or v 1 0) content-read

    pub denied-read : get_or (words l) (bodies_at + i * body_words) 0 ≡ (nth i (rows_in l)).row.denied
    denied-read = denied-word (words l) i few ∙ ap (λ (v : List ℕ). get_or v 0 0) body-read

    pub places-read : take most_opens (drop (bodies_at + i * body_words + 1) (words l)) ≡ pad most_opens (nth i (rows_in l)).row.opens
    places-read = sym (places-run (words l) i few) ∙ ap (drop 1) body-read

-- ---- a row by value and its places

-- the 15 places of a tidy row's open sets
pub tidy-places : (l : OpenSets) → Tidy most_opens l → take most_opens l.sets ≡ pad most_opens (held l)
tidy-places l t =
    let o = held l in
    let few : length o ≤ most_opens = let f = t.few in omega (arith, tidy-count most_opens l t (omega arith)) in
    ap (take most_opens) (tidy-sets most_opens l t (omega arith))
    ∙ ap (λ (k : ℕ). take k (o ++ replicate (places - length o) 0)) (let q : most_opens ≡ length o + (most_opens - length o) = omega arith in q)
    ∙ take-append-add o (replicate (places - length o) 0) (most_opens - length o)
    ∙ ap (λ (r : List ℕ). o ++ r) (take-zeros (most_opens - length o) (places - length o) (omega arith))
    ∙ sym (pad-short most_opens o few)

-- 15 places and a zero are the places of a row by value
pub places-tidy : (o : List ℕ) → length o ≤ most_opens → pad most_opens o ++ 0 ∷ [] ≡ padded o
places-tidy o few =
    ap (λ (l : List ℕ). l ++ 0 ∷ []) (pad-short most_opens o few)
    ∙ append_assoc o (replicate (most_opens - length o) 0) (0 ∷ [])
    ∙ ap (λ (r : List ℕ). o ++ r) (replicate-append-replicate (most_opens - length o) 1 0 ∙ ap (λ (k : ℕ). replicate k 0) (let q : most_opens - length o + 1 ≡ places - length o = omega arith in q))

-- the open sets of a row are few
pub opens-few : (l : List ℕ) (s : Sound l) (i : ℕ) → i < length (rows_in l) → length (nth i (rows_in l)).row.opens ≤ most_opens
opens-few l s i h = few-opens (state_of l) (good-state l s.good) i h
