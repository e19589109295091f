-- What is shown, by what the arguments read as. Assumes nothing.
use mathlib.Core.Path.{◌≡◌, refl, sym, ap}
use mathlib.Core.List.{List}
use Prim.Native.Nat.{ℕ}
use Rattle.std.specs.Prelude.{Some, None, Result, MatchResult, IsErrAnd}
use Rattle.std.proofs.lemmas.Result.{err_from_is_err_and}
use Rattle.roles.specs.declared.RoleSet.{RoleSet}
use Rattle.written.specs.Print.{Prints}
use Rattle.written.specs.declared.Written.{Written}
use Rattle.text.specs.Number.{Got, found, bad}
use Rattle.text.specs.Field.{number_field, set_field}
use Rattle.text.proofs.Walks.{field-bad}
use Rattle.sheet.specs.Sheet.{sheet_of}
use Rattle.std.proofs.Common.{Ok, Err}
use Rattle.written.specs.Result.{written_of}
use Rattle.written.specs.declared.Refusal.{Refusal}
use Rattle.wall.specs.declared.NoSheet.{NoSheet}
use Rattle.wall.specs.declared.NoSheet.TheVariants.{BadPermission, BadSet, Refused}
use Rattle.wall.specs.Standard.{standard_table}
use Rattle.wall.specs.Shown.{permission_in, session_in, answered, Show, shown_on, shown_of, Shows}
use Rattle.wall.proofs.Arguments.{number-found, set_found}

module _ (l works p s d : List ℕ) where
  -- the arguments read as g and h
  by-arguments : (g h : Got) → permission_in p ≡ g → session_in s ≡ h → shown_of l works p s d ≡ shown_on l works g h d
  by-arguments g h e f = rw (e, f) refl

  pub permission-unread : None ≡ number_field p (permission_in p) → Shows (shown_of l works p s d) (Err BadPermission) d
  unfolding shown_on
  permission-unread q =
      let o = by-arguments bad (session_in s) (field-bad (λ v. v) p (permission_in p) q) refl in
      record { told = sym (ap (λ (x : Show). x.told) o); out = sym (ap (λ (x : Show). x.out) o) }

  module _ (v n : ℕ) (q : Some (v, n) ≡ number_field p (permission_in p)) where
    pub set-unread : None ≡ set_field s (session_in s) → Shows (shown_of l works p s d) (Err BadSet) d
    unfolding shown_on
    set-unread r =
        let f = number-found p (permission_in p) v n q in
        let o = by-arguments (found v f.0) bad f.1 (field-bad (λ x. record { bits = x }) s (session_in s) r) in
        record { told = sym (ap (λ (x : Show). x.told) o); out = sym (ap (λ (x : Show). x.out) o) }

    module _ (t : RoleSet) (m : ℕ) (r : Some (t, m) ≡ set_field s (session_in s)) where
      told : (w : Written) {e : List ℕ} → Prints (sheet_of l works standard_table v t.bits d) w e → record { told = answered w.answer w.bytes; out = e } ≡ shown_of l works p s d
      unfolding shown_on
      told w y =
          let f = number-found p (permission_in p) v n q in
          let g = set_found s (session_in s) t m r in
          rw (y.answer, y.bytes, y.out) (sym (by-arguments (found v f.0) (found t.bits g.0) f.1 g.1))

      pub sheet-shown : (k : ℕ) {e : List ℕ} → Prints (sheet_of l works standard_table v t.bits d) (written_of (Ok k)) e → Shows (shown_of l works p s d) (Ok k) e
      sheet-shown k y = let o = told (written_of (Ok k)) y in record { told = ap (λ (x : Show). x.told) o; out = ap (λ (x : Show). x.out) o }

      pub refusal-shown : (k : Refusal) {e : List ℕ} → Prints (sheet_of l works standard_table v t.bits d) (written_of (Err k)) e
          → Shows (shown_of l works p s d) (Err (Refused k)) e
      refusal-shown k y = let o = told (written_of (Err k)) y in record { told = ap (λ (x : Show). x.told) o; out = ap (λ (x : Show). x.out) o }

      -- what the sheet gives, its refusals among those of the arguments
      pub mapped-shown : (k : Result ℕ Refusal) (x : Result ℕ NoSheet) {e : List ℕ} → Prints (sheet_of l works standard_table v t.bits d) (written_of k) e
          → MatchResult k (λ n. x ≡ Ok n) (λ f. IsErrAnd x (λ g. g ≡ Refused f)) → Shows (shown_of l works p s d) x e
      mapped-shown (Ok n) x y m = rw m (sheet-shown n y)
      mapped-shown (Err f) x y m = let g = err_from_is_err_and x m in rw (g.1, g.2) (refusal-shown f y)
