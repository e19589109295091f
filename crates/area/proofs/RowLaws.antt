-- The laws of rows by permission: what is found, what is put, at which place, and that what is found fixes the rows. Assumes nothing.
use mathlib.Core.Path.{◌≡◌, refl, sym, ap, ap₂, ◌∙◌, subst, subst⁻¹}
use mathlib.Core.Bool.{Bool, true, false, cond}
use mathlib.Core.List.{List, [], ◌∷◌, ◌++◌, append-nil}
use mathlib.Core.Logic.{◌↔◌, ◌≢◌, ◌⊎◌, inl, inr, ⊎_elim}
use Prim.Native.Nat.{ℕ, zero, suc, ◌≤◌, ◌<◌}
use native.Mathlib.Nat.{le_of_suc-le-suc}
use native.Mathlib.Decide.{ℕ_discrete, dec_lt}
use native.Mathlib.Omega.{arith}
use borrow.Author.Tests.{eq-eqb, ne_eqb, lt-ltb, le-ltb}
use lib.Dec.{T, eqb, eqb→eq}
use lib.ListN.{length, get_or, set, length-append, length-take, length-drop, length-set}
use Rattle.roles.proofs.Tests.{T_and, T_false}
use Rattle.meaning.specs.Rows.{Row, blank, Good, most_opens}
use Rattle.meaning.proofs.Kept.{blank-good}
use Rattle.meaning.specs.Events.{last_permission}
use Rattle.area.specs.Layout.{most_rows}
use Rattle.area.specs.State.{Entry, entry, is_blank, GoodRow, GoodRows, row_for, one, past, put, place, insert_at, remove_at}

-- what a list of rows has behind its last
abbrev pub none : Entry
none = entry 0 blank

-- x comes before y, is y, or comes after it
by_order : {P : Type 0} (x y : ℕ) → (x < y → P) → (x ≡ y → P) → (y < x → P) → P
by_order x y f g h = elim (dec_lt x y) [ yes u ↦ f u | no u ↦ elim (ℕ_discrete x y) [ yes v ↦ g v | no v ↦ h (omega arith) ] ]

-- ---- blank rows

no-opens : (l : List ℕ) → length l ≡ 0 → l ≡ []
no-opens [] e = refl
no-opens (o ∷ l) e = absurd (let z : ⊥ = omega arith in z)

pub is_blank-law : (w : Row) → (is_blank w ≡ true) ↔ (w ≡ blank)
is_blank-law w = (
  (λ h.
      let b = (T_and (eqb w.denied 0) (eqb (length w.opens) 0)).0 (subst⁻¹ T h tt) in
      ap₂ {C = Row} (λ (d : ℕ) (l : List ℕ). record { denied = d; opens = l }) (eqb→eq w.denied 0 b.0) (no-opens w.opens (eqb→eq (length w.opens) 0 b.1))),
  λ e. ap (λ (v : Row). is_blank v) e,
)

-- a good row is not blank
pub good_row-says : (n : ℕ) (w : Row) → GoodRow n w → is_blank w ≡ false
good_row-says n w g = T_false (is_blank w) g.says

by-blank : {P : Type 0} (w : Row) → (is_blank w ≡ true → P) → (is_blank w ≡ false → P) → P
by-blank {P} w f g = go (is_blank w) refl
  where
    go : (b : Bool) → is_blank w ≡ b → P
    go true e = f e
    go false e = g e

not-both : (w : Row) → is_blank w ≡ true → is_blank w ≡ false → ⊥
not-both w h k = let z : ◌≡◌ {A = ℕ} 0 1 = cc in omega arith

-- ---- found, one row after the other

pub found : (p : ℕ) (e : Entry) (es : List Entry) → e.permission ≡ p → row_for p (e ∷ es) ≡ e.row
unfolding row_for
found p e es h = ap (λ (t : Bool). cond t e.row (row_for p es)) (eq-eqb e.permission p h)

pub missed : (p : ℕ) (e : Entry) (es : List Entry) → e.permission ≢ p → row_for p (e ∷ es) ≡ row_for p es
unfolding row_for
missed p e es h = ap (λ (t : Bool). cond t e.row (row_for p es)) (ne_eqb e.permission p h)

row_for-tail : (p : ℕ) (e : Entry) (es fs : List Entry) → row_for p es ≡ row_for p fs → row_for p (e ∷ es) ≡ row_for p (e ∷ fs)
unfolding row_for
row_for-tail p e es fs h = ap (λ (w : Row). cond (eqb e.permission p) e.row w) h

-- the permissions of good rows are above `last`
pub absent : (n last p : ℕ) (es : List Entry) → GoodRows n last es → p ≤ last → row_for p es ≡ blank
unfolding row_for
absent n last p [] g h = refl
absent n last p (e ∷ es) g h = let u = g.0 in missed p e es (λ q. omega arith) ∙ absent n e.permission p es g.3 (omega arith)

-- ---- put, one row after the other

one-blank : (p : ℕ) (w : Row) → is_blank w ≡ true → one p w ≡ []
unfolding one
one-blank p w h = ap (λ (t : Bool). cond t [] (entry p w ∷ [])) h

one-says : (p : ℕ) (w : Row) → is_blank w ≡ false → one p w ≡ entry p w ∷ []
unfolding one
one-says p w h = ap (λ (t : Bool). cond t [] (entry p w ∷ [])) h

put-empty : (p : ℕ) (w : Row) → put p w [] ≡ one p w ++ []
unfolding put
put-empty p w = sym (append-nil (one p w))

module _ (p : ℕ) (w : Row) (e : Entry) (es : List Entry) where
  put-behind : e.permission < p → put p w (e ∷ es) ≡ e ∷ put p w es
  unfolding put
  put-behind h = ap (λ (t : Bool). cond t (e ∷ put p w es) (one p w ++ past p (e ∷ es))) (lt-ltb e.permission p h)

  put-here : p ≤ e.permission → put p w (e ∷ es) ≡ one p w ++ past p (e ∷ es)
  unfolding put
  put-here h = ap (λ (t : Bool). cond t (e ∷ put p w es) (one p w ++ past p (e ∷ es))) (le-ltb e.permission p h)

  put-instead : e.permission ≡ p → put p w (e ∷ es) ≡ one p w ++ es
  unfolding past
  put-instead h = put-here (omega arith) ∙ ap (λ (t : Bool). one p w ++ cond t es (e ∷ es)) (eq-eqb e.permission p h)

  put-before : p < e.permission → put p w (e ∷ es) ≡ one p w ++ e ∷ es
  unfolding past
  put-before h = put-here (omega arith) ∙ ap (λ (t : Bool). one p w ++ cond t es (e ∷ es)) (ne_eqb e.permission p (λ q. omega arith))

-- ---- found after put

row_for-one-same : (p : ℕ) (w : Row) (es : List Entry) → row_for p es ≡ blank → row_for p (one p w ++ es) ≡ w
row_for-one-same p w es a = by-blank w
    (λ b. rw (one-blank p w b) (a ∙ sym ((is_blank-law w).0 b)))
    (λ b. rw (one-says p w b) (found p (entry p w) es refl))

row_for-one-other : (p q : ℕ) (w : Row) (es : List Entry) → p ≢ q → row_for q (one p w ++ es) ≡ row_for q es
row_for-one-other p q w es d = by-blank w
    (λ b. rw (one-blank p w b))
    (λ b. rw (one-says p w b) (missed q (entry p w) es d))

pub row_for-put-same : (n last p : ℕ) (w : Row) (es : List Entry) → GoodRows n last es → row_for p (put p w es) ≡ w
unfolding row_for
row_for-put-same n last p w [] g = rw put-empty (row_for-one-same p w [] refl)
row_for-put-same n last p w (e ∷ es) g = by_order e.permission p
    (λ h. rw (put-behind p w e es h) (missed p e (put p w es) (λ q. omega arith) ∙ row_for-put-same n e.permission p w es g.3))
    (λ h. rw (put-instead p w e es h) (row_for-one-same p w es (absent n e.permission p es g.3 (omega arith))))
    (λ h. rw (put-before p w e es h) (row_for-one-same p w (e ∷ es) (absent n p p (e ∷ es) (h, g.1, g.2, g.3) (omega arith))))

pub row_for-put-other : (p q : ℕ) (w : Row) (es : List Entry) → p ≢ q → row_for q (put p w es) ≡ row_for q es
row_for-put-other p q w [] d = rw put-empty (row_for-one-other p q w [] d)
row_for-put-other p q w (e ∷ es) d = by_order e.permission p
    (λ h. rw (put-behind p w e es h) (row_for-tail q e (put p w es) es (row_for-put-other p q w es d)))
    (λ h. rw (put-instead p w e es h) (row_for-one-other p q w es d ∙ sym (missed q e es (λ k. d (sym h ∙ k)))))
    (λ h. rw (put-before p w e es h) (row_for-one-other p q w (e ∷ es) d))

-- ---- good rows

-- what the rules say of one row
pub record GoodEntry (n last : ℕ) (e : Entry) : Type 0 where
  pub above : last < e.permission
  pub valid : e.permission ≤ last_permission
  pub good-row : GoodRow n e.row

pub row-good : (n last : ℕ) (es : List Entry) → GoodRows n last es → (i : ℕ) → i < length es → GoodEntry n last (get_or es i none)
row-good n last [] g i u = absurd (let z : ⊥ = omega arith in z)
row-good n last (e ∷ es) g zero u = record { above = g.0; valid = g.1; good-row = g.2 }
row-good n last (e ∷ es) g (suc i) u =
    let r = row-good n e.permission es g.3 i (le_of_suc-le-suc u) in
    let b = g.0 in
    record { above = omega arith; valid = r.valid; good-row = r.good-row }

pub rows-ascending : (n last : ℕ) (es : List Entry) → GoodRows n last es → (i j : ℕ) → i < j → j < length es → (get_or es i none).permission < (get_or es j none).permission
rows-ascending n last [] g i j h u = absurd (let z : ⊥ = omega arith in z)
rows-ascending n last (e ∷ es) g i zero h u = absurd (let z : ⊥ = omega arith in z)
rows-ascending n last (e ∷ es) g zero (suc j) h u = (row-good n e.permission es g.3 j (le_of_suc-le-suc u)).above
rows-ascending n last (e ∷ es) g (suc i) (suc j) h u = rows-ascending n e.permission es g.3 i j (le_of_suc-le-suc h) (le_of_suc-le-suc u)

-- what holds of the blank row and of good rows holds of the row that is found
row_for-has : (P : Row → Type 0) (n last p : ℕ) (es : List Entry) → GoodRows n last es → P blank → ((w : Row) → GoodRow n w → P w) → P (row_for p es)
unfolding row_for
row_for-has P n last p [] g b f = b
row_for-has P n last p (e ∷ es) g b f = elim (ℕ_discrete e.permission p) [
  | yes h ↦ rw (found p e es h) (f e.row g.2)
  | no h ↦ rw (missed p e es h) (row_for-has P n e.permission p es g.3 b f)
]

pub row_for-good : (n last p : ℕ) (es : List Entry) → GoodRows n last es → Good n (row_for p es)
row_for-good n last p es g = row_for-has (Good n) n last p es g (blank-good n) (λ w r. r.good)

pub row_for-few : (n last p : ℕ) (es : List Entry) → GoodRows n last es → length (row_for p es).opens ≤ most_opens
row_for-few n last p es g = row_for-has (λ (w : Row). length w.opens ≤ most_opens) n last p es g (omega arith) (λ w r. r.few)

good_rows-lower : (n a b : ℕ) (es : List Entry) → GoodRows n a es → b ≤ a → GoodRows n b es
good_rows-lower n a b [] g h = tt
good_rows-lower n a b (e ∷ es) g h = let u = g.0 in (omega arith, g.1, g.2, g.3)

one-good : (n last p : ℕ) (w : Row) (es : List Entry) → GoodRows n p es → last < p → p ≤ last_permission → (is_blank w ≡ false → GoodRow n w) → GoodRows n last (one p w ++ es)
one-good n last p w es g u v f = by-blank w
    (λ b. rw (one-blank p w b) (good_rows-lower n p last es g (omega arith)))
    (λ b. rw (one-says p w b) (u, v, f b, g))

pub put-good : (n last p : ℕ) (w : Row) (es : List Entry) → GoodRows n last es → last < p → p ≤ last_permission → (is_blank w ≡ false → GoodRow n w) → GoodRows n last (put p w es)
put-good n last p w [] g u v f = rw put-empty (one-good n last p w [] tt u v f)
put-good n last p w (e ∷ es) g u v f = by_order e.permission p
    (λ h. rw (put-behind p w e es h) (g.0, g.1, g.2, put-good n e.permission p w es g.3 h v f))
    (λ h. rw (put-instead p w e es h) (one-good n last p w es (good_rows-lower n e.permission p es g.3 (omega arith)) u v f))
    (λ h. rw (put-before p w e es h) (one-good n last p w (e ∷ es) (h, g.1, g.2, g.3) u v f))

-- ---- the place of a permission

pub place-behind : (p : ℕ) (e : Entry) (es : List Entry) → e.permission < p → place p (e ∷ es) ≡ suc (place p es)
unfolding place
place-behind p e es h = ap (λ (t : Bool). cond t (suc (place p es)) 0) (lt-ltb e.permission p h)

pub place_here : (p : ℕ) (e : Entry) (es : List Entry) → p ≤ e.permission → place p (e ∷ es) ≡ 0
unfolding place
place_here p e es h = ap (λ (t : Bool). cond t (suc (place p es)) 0) (le-ltb e.permission p h)

pub place-most : (p : ℕ) (es : List Entry) → place p es ≤ length es
unfolding place
place-most p [] = omega arith
place-most p (e ∷ es) = elim (dec_lt e.permission p) [
  | yes h ↦ rw (place-behind p e es h) (let k = place-most p es in omega arith)
  | no h ↦ let k = place_here p e es (omega arith) in omega arith
]

-- ---- found by the place

-- the row at the place of p is p's
pub record Hit (p : ℕ) (es : List Entry) : Type 0 where
  pub inside : place p es < length es
  pub own : (get_or es (place p es) none).permission ≡ p

pub hit? : (p : ℕ) (es : List Entry) → Hit p es ⊎ ¬ (Hit p es)
hit? p es = elim (dec_lt (place p es) (length es)) [
  | yes u ↦ elim (ℕ_discrete (get_or es (place p es) none).permission p) [ yes v ↦ inl (record { inside = u; own = v }) | no v ↦ inr (λ k. v k.own) ]
  | no u ↦ inr (λ k. u k.inside)
]

miss-empty : (p : ℕ) → ¬ (Hit p [])
miss-empty p k = omega arith

module _ (p : ℕ) (e : Entry) (es : List Entry) where
  hit-behind : e.permission < p → Hit p (e ∷ es) ↔ Hit p es
  hit-behind h =
      let q = place-behind p e es h in (
        (λ k. record { inside = omega arith; own = rw q at k.own }),
        (λ k. record { inside = omega arith; own = rw q k.own }),
      )

  hit_same : e.permission ≡ p → Hit p (e ∷ es)
  hit_same h = let q = place_here p e es (omega arith) in record { inside = omega arith; own = rw q h }

  miss-before : p < e.permission → ¬ (Hit p (e ∷ es))
  miss-before h k =
      let q = place_here p e es (omega arith) in
      let z : e.permission ≡ p = rw q at k.own in omega arith

pub hit-row : (p : ℕ) (es : List Entry) → Hit p es → (get_or es (place p es) none).row ≡ row_for p es
hit-row p [] k = absurd (miss-empty p k)
hit-row p (e ∷ es) k = by_order e.permission p
    (λ h. rw (place-behind p e es h) (hit-row p es ((hit-behind p e es h).0 k) ∙ sym (missed p e es (λ q. omega arith))))
    (λ h. let u : p ≤ e.permission = omega arith in rw (place_here p e es u) (sym (found p e es h)))
    (λ h. absurd (miss-before p e es h k))

pub miss-row : (n last p : ℕ) (es : List Entry) → GoodRows n last es → ¬ (Hit p es) → row_for p es ≡ blank
unfolding row_for
miss-row n last p [] g k = refl
miss-row n last p (e ∷ es) g k = by_order e.permission p
    (λ h. missed p e es (λ q. omega arith) ∙ miss-row n e.permission p es g.3 (λ z. k ((hit-behind p e es h).1 z)))
    (λ h. absurd (k (hit_same p e es h)))
    (λ h. absent n p p (e ∷ es) (h, g.1, g.2, g.3) (omega arith))

-- of good rows, p has one exactly where the row that is found is not blank
pub hit-law : (n last p : ℕ) (es : List Entry) → GoodRows n last es → Hit p es ↔ (is_blank (row_for p es) ≡ false)
hit-law n last p es g = (
  (λ k. rw (← hit-row p es k) (good_row-says n (get_or es (place p es) none).row (row-good n last es g (place p es) k.inside).good-row)),
  λ b. ⊎_elim (λ k. k) (λ k. absurd (not-both (row_for p es) ((is_blank-law (row_for p es)).1 (miss-row n last p es g k)) b)) (hit? p es),
)

-- ---- put by the place

module _ (p : ℕ) (w : Row) where
  pub put-over : (es : List Entry) → Hit p es → is_blank w ≡ false → put p w es ≡ set es (place p es) (entry p w)
  put-over [] k b = absurd (miss-empty p k)
  put-over (e ∷ es) k b = by_order e.permission p
      (λ h. rw (put-behind p w e es h, place-behind p e es h) (ap (λ (l : List Entry). e ∷ l) (put-over es ((hit-behind p e es h).0 k) b)))
      (λ h. let u : p ≤ e.permission = omega arith in rw (put-instead p w e es h, place_here p e es u, one-says p w b))
      (λ h. absurd (miss-before p e es h k))

  pub put-new : (es : List Entry) → ¬ (Hit p es) → is_blank w ≡ false → put p w es ≡ insert_at (place p es) (entry p w) es
  unfolding insert_at place
  put-new [] k b = rw (put-empty, one-says p w b)
  put-new (e ∷ es) k b = by_order e.permission p
      (λ h. rw (put-behind p w e es h, place-behind p e es h) (ap (λ (l : List Entry). e ∷ l) (put-new es (λ z. k ((hit-behind p e es h).1 z)) b)))
      (λ h. absurd (k (hit_same p e es h)))
      (λ h. let u : p ≤ e.permission = omega arith in rw (put-before p w e es h, place_here p e es u, one-says p w b))

  pub put-out : (es : List Entry) → Hit p es → is_blank w ≡ true → put p w es ≡ remove_at (place p es) es
  unfolding remove_at
  put-out [] k b = absurd (miss-empty p k)
  put-out (e ∷ es) k b = by_order e.permission p
      (λ h. rw (put-behind p w e es h, place-behind p e es h) (ap (λ (l : List Entry). e ∷ l) (put-out es ((hit-behind p e es h).0 k) b)))
      (λ h. let u : p ≤ e.permission = omega arith in rw (put-instead p w e es h, place_here p e es u, one-blank p w b))
      (λ h. absurd (miss-before p e es h k))

  pub put-not : (es : List Entry) → ¬ (Hit p es) → is_blank w ≡ true → put p w es ≡ es
  put-not [] k b = rw (put-empty, one-blank p w b)
  put-not (e ∷ es) k b = by_order e.permission p
      (λ h. rw (put-behind p w e es h) (ap (λ (l : List Entry). e ∷ l) (put-not es (λ z. k ((hit-behind p e es h).1 z)) b)))
      (λ h. absurd (k (hit_same p e es h)))
      (λ h. rw (put-before p w e es h, one-blank p w b))

-- ---- the number of rows

pub length-insert_at : (i : ℕ) (e : Entry) (es : List Entry) → i ≤ length es → length (insert_at i e es) ≡ suc (length es)
unfolding insert_at
length-insert_at i e es h = simp (length-append, length-take, length-drop) (omega arith)

pub length-remove_at : (i : ℕ) (es : List Entry) → i < length es → suc (length (remove_at i es)) ≡ length es
unfolding remove_at
length-remove_at i es h = simp (length-append, length-take, length-drop) (omega arith)

module _ (p : ℕ) (w : Row) (es : List Entry) where
  pub length-put-over : Hit p es → is_blank w ≡ false → length (put p w es) ≡ length es
  length-put-over k b = ap length (put-over p w es k b) ∙ simp length-set

  pub length-put-new : ¬ (Hit p es) → is_blank w ≡ false → length (put p w es) ≡ suc (length es)
  length-put-new k b = ap length (put-new p w es k b) ∙ length-insert_at (place p es) (entry p w) es (place-most p es)

  pub length-put-out : Hit p es → is_blank w ≡ true → suc (length (put p w es)) ≡ length es
  length-put-out k b = ap (λ (l : List Entry). suc (length l)) (put-out p w es k b) ∙ length-remove_at (place p es) es k.inside

  pub length-put-not : ¬ (Hit p es) → is_blank w ≡ true → length (put p w es) ≡ length es
  length-put-not k b = ap length (put-not p w es k b)

  -- room is needed only where p has no row and gets one
  pub put-most : (n last : ℕ) → GoodRows n last es → length es ≤ most_rows → (is_blank (row_for p es) ≡ true → is_blank w ≡ false → length es < most_rows) → length (put p w es) ≤ most_rows
  put-most n last g h room = ⊎_elim
      (λ k. by-blank w (λ b. omega (arith, length-put-out k b)) (λ b. omega (arith, length-put-over k b)))
      (λ k. by-blank w (λ b. omega (arith, length-put-not k b)) (λ b. omega (arith, length-put-new k b, room ((is_blank-law (row_for p es)).1 (miss-row n last p es g k)) b)))
      (hit? p es)

-- ---- what is found fixes good rows

-- the row of a good entry is not found among rows of greater permissions
not_behind : (n m : ℕ) (e : Entry) (es fs : List Entry) → GoodRow n e.row → GoodRows m e.permission fs → row_for e.permission (e ∷ es) ≢ row_for e.permission fs
not_behind n m e es fs r g h =
    let q : e.row ≡ blank = sym (found e.permission e es refl) ∙ h ∙ absent m e.permission e.permission fs g (omega arith) in
    not-both e.row ((is_blank-law e.row).1 q) (good_row-says n e.row r)

pub rows_ext : (n m last : ℕ) (es fs : List Entry) → GoodRows n last es → GoodRows m last fs → ((p : ℕ) → last < p → p ≤ last_permission → row_for p es ≡ row_for p fs) → es ≡ fs
rows_ext n m last [] [] g k h = refl
rows_ext n m last [] (f ∷ fs) g k h = absurd (not_behind m n f fs [] k.2 tt (sym (h f.permission k.0 k.1)))
rows_ext n m last (e ∷ es) [] g k h = absurd (not_behind n m e es [] g.2 tt (h e.permission g.0 g.1))
rows_ext n m last (e ∷ es) (f ∷ fs) g k h = by_order e.permission f.permission
    (λ u. absurd (not_behind n m e es (f ∷ fs) g.2 (u, k.1, k.2, k.3) (h e.permission g.0 g.1)))
    (λ u.
    let w : e.row ≡ f.row = sym (found e.permission e es refl) ∙ h e.permission g.0 g.1 ∙ found e.permission f fs (sym u) in
    let b = g.0 in
    let rest : es ≡ fs = rows_ext n m e.permission es fs g.3 (subst⁻¹ (λ (q : ℕ). GoodRows m q fs) u k.3)
    (λ p v x. sym (missed p e es (λ q. omega arith)) ∙ h p (omega arith) x ∙ missed p f fs (λ q. omega arith)) in
    ap₂ (λ (x : Entry) (l : List Entry). x ∷ l) (ap₂ {C = Entry} (λ (q : ℕ) (v : Row). entry q v) u w) rest)
    (λ u. absurd (not_behind m n f fs (e ∷ es) k.2 (u, g.1, g.2, g.3) (sym (h f.permission k.0 k.1))))

-- ---- a row put again, and rows put one behind the other

-- of two rows put for one permission the later one stands
pub put-again : (n last p : ℕ) (v w : Row) (es : List Entry) → GoodRows n last es → last < p → p ≤ last_permission → (is_blank v ≡ false → GoodRow n v) → (is_blank w ≡ false → GoodRow n w)
    → put p w (put p v es) ≡ put p w es
put-again n last p v w es g a b gv gw =
    let first : GoodRows n last (put p v es) = put-good n last p v es g a b gv in
    rows_ext n n last (put p w (put p v es)) (put p w es) (put-good n last p w (put p v es) first a b gw) (put-good n last p w es g a b gw)
    (λ q x y. elim (ℕ_discrete p q) [
      | yes d ↦ subst (λ (r : ℕ). row_for r (put p w (put p v es)) ≡ row_for r (put p w es)) d
          (row_for-put-same n last p w (put p v es) first ∙ sym (row_for-put-same n last p w es g))
      | no d ↦ row_for-put-other p q w (put p v es) d ∙ row_for-put-other p q v es d ∙ sym (row_for-put-other p q w es d)
    ])

pub rows-first : (n last : ℕ) (es fs : List Entry) → GoodRows n last (es ++ fs) → GoodRows n last es
rows-first n last [] fs g = tt
rows-first n last (e ∷ es) fs g = (g.0, g.1, g.2, rows-first n e.permission es fs g.3)

-- the row e behind the rows es
module _ (n : ℕ) (e : Entry) (fs : List Entry) where
  pub next-good : (last : ℕ) (es : List Entry) → GoodRows n last (es ++ e ∷ fs) → GoodEntry n last e
  next-good last [] g = record { above = g.0; valid = g.1; good-row = g.2 }
  next-good last (f ∷ es) g =
      let r = next-good f.permission es g.3 in
      let b = g.0 in
      record { above = omega (arith, r.above); valid = r.valid; good-row = r.good-row }

  pub next-absent : (last : ℕ) (es : List Entry) → GoodRows n last (es ++ e ∷ fs) → row_for e.permission es ≡ blank
  unfolding row_for
  next-absent last [] g = refl
  next-absent last (f ∷ es) g =
      let above = (next-good f.permission es g.3).above in
      missed e.permission f es (λ q. omega arith) ∙ next-absent f.permission es g.3

  pub put_next : (last : ℕ) (es : List Entry) → GoodRows n last (es ++ e ∷ fs) → put e.permission e.row es ≡ es ++ e ∷ []
  put_next last [] g = put-empty e.permission e.row ∙ append-nil (one e.permission e.row) ∙ one-says e.permission e.row (good_row-says n e.row g.2)
  put_next last (f ∷ es) g =
      put-behind e.permission e.row f es (next-good f.permission es g.3).above
      ∙ ap (λ (l : List Entry). f ∷ l) (put_next f.permission es g.3)
