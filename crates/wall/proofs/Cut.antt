-- A name table that is cut behind what can be reached gives the same sheet. Assumes nothing.
use mathlib.Core.Path.{◌≡◌, refl, sym, ap, ◌∙◌}
use mathlib.Core.Bool.{Bool, true, false, not, cond, ◌&&◌}
use mathlib.Core.List.{List, [], ◌∷◌}
use Prim.Native.Nat.{ℕ, zero, suc, ◌+◌, ◌≤◌, ◌<◌}
use native.Mathlib.Omega.{arith}
use lib.Dec.{T, eqb}
use lib.ListN.{get_or, take, drop}
use Rattle.roles.specs.Sets.{most_roles, has, roles_from, roles_of}
use Rattle.refusals.specs.Refusals.{Refusal, refusal, refuse}
use Rattle.written.specs.Print.{Print, kept, shown}
use Rattle.meaning.specs.Lists.{keep}
use Rattle.meaning.specs.Rows.{Row, decide}
use Rattle.calls.specs.Calls.{look_of}
use Rattle.names.specs.Names.{good_table, name_of}
use Rattle.names.proofs.Theorems.{naming}
use Rattle.sheet.specs.Text.{alone, larger, roles_of_all, name_text, names_text, parted_text, sheet_lines}
use Rattle.sheet.specs.Sheet.{sheet_refusals, sheet_of}
use Rattle.sheet.proofs.Parts.{names-append}
use Rattle.wall.specs.Enough.{Enough}

-- ---- texts of roles that agree below 64

module _ (f g : ℕ → List ℕ) (same : (r : ℕ) → r < most_roles → f r ≡ g r) where
  same_from : (k r s : ℕ) → k + r ≤ most_roles → names_text f (roles_from k r s) ≡ names_text g (roles_from k r s)
  unfolding roles_from names_text
  same_from zero r s h = refl
  same_from (suc k) r s h = go (has s r) (same_from k (suc r) s (omega arith))
    where
      go : (b : Bool) → names_text f (roles_from k (suc r) s) ≡ names_text g (roles_from k (suc r) s)
          → names_text f (cond b (r ∷ roles_from k (suc r) s) (roles_from k (suc r) s)) ≡ names_text g (cond b (r ∷ roles_from k (suc r) s) (roles_from k (suc r) s))
      go true i = let e : r < most_roles = omega arith in rw (same r e, i) refl
      go false i = i

  same_names : (s : ℕ) → names_text f (roles_of s) ≡ names_text g (roles_of s)
  unfolding roles_of
  same_names s = same_from most_roles 0 s (omega arith)

  same-all : (l : List ℕ) → names_text f (roles_of_all l) ≡ names_text g (roles_of_all l)
  unfolding roles_of_all names_text
  same-all [] = refl
  same-all (s ∷ l) = names-append f (roles_of s) (roles_of_all l) ∙ rw (same_names s, same-all l) (sym (names-append g (roles_of s) (roles_of_all l)))

  same-parted : (later : Bool) (l : List ℕ) → parted_text f later l ≡ parted_text g later l
  unfolding parted_text
  same-parted later [] = refl
  same-parted later (s ∷ l) = rw (same_names s, same-parted true l) refl

  same-sheet : (w : Row) (v : ℕ) → sheet_lines f w v ≡ sheet_lines g w v
  unfolding sheet_lines
  same-sheet w v = rw (same_names w.denied, same-all (keep alone w.opens), same-parted false (keep larger w.opens)) refl

-- ---- the sheet

name-cut : (works standard : List ℕ) → ((k : ℕ) → get_or works k 0 ≤ 255) → (n : ℕ) → 65567 ≤ n → T (good_table works) → (r : ℕ) → r < most_roles
    → name_text (take n works) standard r ≡ name_text works standard r
unfolding name_text name_of
name-cut works standard bytes n m t r h = let x = (naming.reach works bytes n m).1 t r h in rw (x.0, x.1) refl

-- what is written matters only where the works' table is good, which is the second thing asked
where-good : (d : List ℕ) (first : Refusal) (rest : List Refusal) (b c : Bool) (x y : Print) → (T b → x ≡ y)
    → refuse (first ∷ refusal 17 (not (b && c)) ∷ rest) (λ a. kept a d) x ≡ refuse (first ∷ refusal 17 (not (b && c)) ∷ rest) (λ a. kept a d) y
where-good d first rest true c x y e = ap (λ (z : Print). refuse (first ∷ refusal 17 (not c) ∷ rest) (λ a. kept a d) z) (e tt)
where-good d first rest false c x y e = refl

pub enough : Enough
unfolding sheet_of
enough l works standard bytes n m p s d =
    let w = (look_of l p s).row in
    let v = (decide w s).answer in
    let k = (look_of l p s).decided.answer in
    rw (naming.reach works bytes n m).0
    (where-good d (refusal 1 (eqb k 1)) (drop 2 (sheet_refusals k works standard d)) (good_table works) (good_table standard) (shown (sheet_lines (name_text (take n works) standard) w v) d)
    (shown (sheet_lines (name_text works standard) w v) d)
    (λ t. ap (λ (x : List ℕ). shown x d) (same-sheet (name_text (take n works) standard) (name_text works standard) (name-cut works standard bytes n m t) w v)))
