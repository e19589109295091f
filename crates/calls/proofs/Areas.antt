-- Demand 3: areas reached from opening are equal exactly when they know the same. Assumes nothing.
use mathlib.Core.Path.{◌≡◌, refl, sym, ap, ◌∙◌, subst, subst⁻¹}
use mathlib.Core.Bool.{Bool, true, false}
use mathlib.Core.List.{List}
use mathlib.Core.Logic.Iff
use mathlib.Core.Logic.{◌↔◌, ⊎_elim}
use Prim.Native.Nat.{ℕ, ◌≤◌, ◌<◌}
use native.Mathlib.Omega.{arith}
use lib.Dec.{T}
use Rattle.meaning.specs.declared.Event.{Event}
use Rattle.meaning.specs.Events.{is_reply, Possible, last_permission}
use Rattle.meaning.specs.Rows.{blank, row_after, Recorded}
use Rattle.meaning.proofs.States.{follows-le, follows-update}
use Rattle.meaning.proofs.Theorems.{same_row}
use Rattle.area.specs.State.{State, row_for, area_of}
use Rattle.area.proofs.RowLaws.{rows_ext}
use Rattle.area.proofs.Theorems.{one_state}
use Rattle.calls.specs.Histories.{Past, opened, area, roles, policy, trail, PossibleAfter, calls, Rearranged, KeepsOrder, AllRecorded}
use Rattle.calls.specs.Demands as demands
use Rattle.calls.proofs.CallLaws.{valid-law}
use Rattle.calls.proofs.Invariant.{holds}
use Rattle.calls.proofs.Decisions.{as-it-came, told}
use Rattle.calls.proofs.Streams.{as_numbered, swapped-possible, after_all, after-area, stream-roles, stream-trail, stream-order, stream-grows, stream-within, stream-named}
use Rattle.calls.proofs.Positions.{by-positions}

-- ---- two pasts of one role count

module _ (h k : Past) (e : roles h ≡ roles k) where
  -- both trails are recorded under the first role count
  same-told : (p : ℕ) → (row_after blank (told h p) ≡ row_after blank (told k p)) ↔ ((s : ℕ) → Possible (roles h) (told h p) s ↔ Possible (roles k) (told k p) s)
  same-told p =
      subst (λ (j : ℕ). (row_after blank (told h p) ≡ row_after blank (told k p)) ↔ ((s : ℕ) → Possible (roles h) (told h p) s ↔ Possible j (told k p) s)) e
      (same_row (roles h) (told h p) (told k p) ((holds h).trail-recorded p) (subst⁻¹ (λ (j : ℕ). Recorded j blank (told k p)) e ((holds k).trail-recorded p)))

  same : (p : ℕ) → (row_after blank (told h p) ≡ row_after blank (told k p)) ↔ ((s : ℕ) → PossibleAfter h p s ↔ PossibleAfter k p s)
  same p = Iff.trans (same-told p) (
    (λ f s. Iff.trans (as-it-came h p s) (Iff.trans (f s) (Iff.symm (as-it-came k p s)))),
    λ f s. Iff.trans (Iff.symm (as-it-came h p s)) (Iff.trans (f s) (as-it-came k p s)),
  )

pub demand-3 : demands.Demand3
demand-3 h k =
    let x = holds h in
    let y = holds k in (
      (λ e.
          let st : x.state ≡ y.state = one_state x.state y.state x.good y.good (sym x.same_area ∙ e ∙ y.same_area) in
          let n : roles h ≡ roles k = sym x.same_roles ∙ ap (λ (s : State). s.roles) st ∙ y.same_roles in
          let i : policy h ≡ policy k = sym x.same-policy ∙ ap (λ (s : State). s.policy) st ∙ y.same-policy in
          (n, i, λ p v. (same h k n p).0 (sym (x.rows p) ∙ ap (λ (s : State). row_for p s.rows) st ∙ y.rows p))),
      λ f.
          let found : (p : ℕ) → 1 ≤ p → p ≤ last_permission → row_for p x.state.rows ≡ row_for p y.state.rows = λ p a b.
          x.rows p ∙ (same h k f.0 p).1 (f.2 p ((valid-law p).1 (a, b))) ∙ sym (y.rows p) in
          let rs : x.state.rows ≡ y.state.rows = rows_ext x.state.roles y.state.roles 0 x.state.rows y.state.rows x.good.good-rows y.good.good-rows found in
          let ns : x.state.roles ≡ y.state.roles = x.same_roles ∙ f.0 ∙ sym y.same_roles in
          let is : x.state.policy ≡ y.state.policy = x.same-policy ∙ f.1 ∙ sym y.same-policy in
          x.same_area ∙ (λ t. area_of (record { roles = ns t; policy = is t; rows = rs t })) ∙ sym y.same_area,
    )

-- ---- streams in another order

-- the later of two stands behind the earlier one's number in both streams, so they cannot change places unless both are replies
never-cross : (a b : Bool) (e f : ℕ) → ¬ (T a × T b) → e ≤ f → (b ≡ false → e < f) → f ≤ e → (a ≡ false → f < e) → ⊥
never-cross true true e f n x y z u = n (tt, tt)
never-cross true false e f n x y z u = let w = y refl in omega arith
never-cross false b e f n x y z u = let w = u refl in omega arith

module _ (l m : List ℕ) (n g : ℕ) (es fs : List Event) (b : demands.BothRecorded l m n g es fs) where
  -- the two openings, and the two streams on them
  abbrev h : Past
  h = opened l n g b.is_state b.opened

  abbrev k : Past
  k = opened m n g b.is_state b.opened-too

  abbrev r : Rearranged es fs
  r = b.rearranged

  recorded : AllRecorded es (area h)
  unfolding area
  recorded = b.recorded

  recorded-too : AllRecorded fs (area k)
  unfolding area
  recorded-too = b.recorded-too

  keeps-order : KeepsOrder es r.to
  keeps-order i j e f x y not-both lt =
      let t = r.there i e x in
      let u = r.there j f y in
      let d = stream-order es h recorded i j e f x y lt in
      let apart : ¬ (r.to i ≡ r.to j) = λ q. let z : i ≡ j = sym t.1 ∙ ap r.from q ∙ u.1 in omega arith in
      let ahead : ¬ (r.to j < r.to i) = λ q.
      let c = stream-order fs k recorded-too (r.to j) (r.to i) f e u.0 t.0 q in
      never-cross (is_reply e.happening) (is_reply f.happening) e.state f.state not-both
      (follows-le e.state (as_numbered f) d) (λ u. follows-update e.state (as_numbered f) u d) (follows-le f.state (as_numbered e) c) (λ u. follows-update f.state (as_numbered e) u c) in
      omega (arith, apart, ahead)

  -- the state after a stream is that of the opening, or one that its events name, which the other stream has too
  same-policy : policy (after_all (calls es) h) ≡ policy (after_all (calls fs) k)
  unfolding policy
  same-policy =
      let x : policy (after_all (calls es) h) ≤ policy (after_all (calls fs) k) = ⊎_elim
      (λ q. let z = stream-grows fs k recorded-too in omega (arith, q))
      (λ q. subst (λ (i : ℕ). i ≤ policy (after_all (calls fs) k)) q.3 (stream-within fs k recorded-too (r.to q.0) q.1 (r.there q.0 q.1 q.2).0))
      (stream-named es h recorded) in
      let y : policy (after_all (calls fs) k) ≤ policy (after_all (calls es) h) = ⊎_elim
      (λ q. let z = stream-grows es h recorded in omega (arith, q))
      (λ q. subst (λ (i : ℕ). i ≤ policy (after_all (calls es) h)) q.3 (stream-within es h recorded (r.from q.0) q.1 (r.back q.0 q.1 q.2).0))
      (stream-named fs k recorded-too) in
      omega arith

  same-possible : (q s : ℕ) → Possible n (told (after_all (calls es) h) q) s ↔ Possible n (told (after_all (calls fs) k) q) s
  unfolding trail
  same-possible q s = rw (stream-trail es h q recorded, stream-trail fs k q recorded-too) (swapped-possible (by-positions es fs r keeps-order q) n s)

  same_area : area (after_all (calls es) h) ≡ area (after_all (calls fs) k)
  unfolding roles
  same_area =
      let x : roles (after_all (calls es) h) ≡ n = stream-roles es h in
      let y : roles (after_all (calls fs) k) ≡ n = stream-roles fs k in
      (demand-3 (after_all (calls es) h) (after_all (calls fs) k)).1 (
        x ∙ sym y,
        same-policy,
        λ q v s. Iff.trans (as-it-came (after_all (calls es) h) q s) (Iff.trans (rw (x, y) (same-possible q s)) (Iff.symm (as-it-came (after_all (calls fs) k) q s))),
      )

pub reordered : demands.Reordered
unfolding area
reordered = record {
  keeps-order = keeps-order;
  same_area = λ l m n g es fs b.
      sym (after-area (calls es) (opened l n g b.is_state b.opened))
      ∙ same_area l m n g es fs b
      ∙ after-area (calls fs) (opened m n g b.is_state b.opened-too);
}
