-- What can come of a sheet where there is room for it. Assumes nothing.
use mathlib.Core.Path.{◌≡◌, refl, sym, ◌∙◌}
use mathlib.Core.List.{List, [], ◌∷◌}
use mathlib.Core.Logic.{inl, inr, ◌≢◌, by_cases}
use Prim.Native.Nat.{ℕ, ◌≤◌}
use native.Mathlib.Decide.{ℕ_discrete}
use native.Mathlib.Omega.{arith}
use lib.ListN.{length}
use Rattle.refusals.specs.Refusals.{ground, Exactly}
use Rattle.written.specs.Grounds.{IsWritten}
use Rattle.text.specs.Number.{Got, found, bad}
use Rattle.sheet.specs.Sheet.{sheet_bytes, sheet_of}
use Rattle.sheet.proofs.Theorems.{sheets}
use Rattle.std.proofs.Common.{Result, Ok, Err}
use Rattle.written.specs.declared.Refusal.{Refusal}
use Rattle.written.specs.declared.Refusal.TheVariants.{BadArea, NoPermission, UnknownRole, ShortBuffer, BadNameTable, NoRow}
use Rattle.written.specs.Result.{number_of}
use Rattle.wall.specs.declared.NoSheet.{NoSheet}
use Rattle.wall.specs.declared.NoSheet.TheVariants.{Refused}
use Rattle.wall.specs.Standard.{standard_table}
use Rattle.wall.specs.Shown.{permission_in, session_in, answered, shown_by, shown_on, shown_of, Shows, Refuses}

-- the number of the first of five grounds that holds, of which the last cannot
refuses : {A B C D E : Type 0} {a : ℕ} → Exactly a (ground 1 A ∷ ground 17 B ∷ ground 3 C ∷ ground 4 D ∷ ground 16 E ∷ []) IsWritten → ¬ E → a ≢ 0 → Refuses a
refuses {a = a} x e n =
    by_cases (ℕ_discrete a 1) inl (λ not-1.
    let x1 = x.1 (λ h. not-1 (x.0.1 h)) in
    by_cases (ℕ_discrete a 17) (λ y. inr (inl y)) (λ not-17.
    let x2 = x1.1 (λ h. not-17 (x1.0.1 h)) in
    by_cases (ℕ_discrete a 3) (λ y. inr (inr (inl y))) (λ not-3.
    let x3 = x2.1 (λ h. not-3 (x2.0.1 h)) in
    by_cases (ℕ_discrete a 4) (λ y. inr (inr (inr y))) (λ not-4.
    let x4 = x3.1 (λ h. not-4 (x3.0.1 h)) in
    absurd (n (x4.1 e))))))

module _ (l works p s d : List ℕ) where
  -- what is told is the answer and the length of some sheet
  record Sheeted (a n : ℕ) : Type 0 where
    pub permission : ℕ
    pub session : ℕ
    pub answer : a ≡ (sheet_of l works standard_table permission session d).answer
    pub bytes : n ≡ (sheet_of l works standard_table permission session d).bytes

  told-sheet : (g h : Got) (a n : ℕ) → answered a n ≡ (shown_on l works g h d).told → Sheeted a n
  unfolding shown_on
  told-sheet bad h a n q = let z : ◌≡◌ {A = ℕ} 0 1 = cc in absurd (omega arith)
  told-sheet (found v t) bad a n q = let z : ◌≡◌ {A = ℕ} 0 1 = cc in absurd (omega arith)
  told-sheet (found v t) (found x u) a n q = record { permission = v; session = x; answer = cc; bytes = cc }

  module _ {r : Result ℕ NoSheet} {e : List ℕ} (y : Shows (shown_of l works p s d) r e) (a n : ℕ) (q : shown_by r ≡ answered a n) where
    sheeted : Sheeted a n
    sheeted = told-sheet (permission_in p) (session_in s) a n (sym q ∙ y.told)

    bytes-inside : n ≤ sheet_bytes
    bytes-inside =
        let k = sheeted in
        omega (arith, k.bytes, (sheets.answers l works standard_table k.permission k.session d).short)

    answer-refused : sheet_bytes ≤ length d → a ≢ 0 → Refuses a
    answer-refused h z =
        let k = sheeted in
        let g = sheets.answers l works standard_table k.permission k.session d in
        rw k.answer (refuses g.exactly (λ x. omega (arith, h, x)) (λ x. z (k.answer ∙ x)))

  pub sheet-inside : (n : ℕ) {e : List ℕ} → Shows (shown_of l works p s d) (Ok n) e → n ≤ sheet_bytes
  sheet-inside n y = bytes-inside y 0 n refl

  refused-number : (r : Refusal) → number_of r ≢ 0
  refused-number BadArea z = omega arith
  refused-number NoPermission z = omega arith
  refused-number UnknownRole z = omega arith
  refused-number ShortBuffer z = omega arith
  refused-number BadNameTable z = omega arith
  refused-number NoRow z = omega arith

  pub sheet-refused : (r : Refusal) {e : List ℕ} → Shows (shown_of l works p s d) (Err (Refused r)) e → sheet_bytes ≤ length d → Refuses (number_of r)
  sheet-refused r y h = answer-refused y (number_of r) 0 refl h (refused-number r)
