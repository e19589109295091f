-- The sheet answers on its grounds, and each of its lines is true by itself over every past. Assumes nothing.
use mathlib.Core.Path.{◌≡◌, refl, sym, ap, ◌∙◌, subst, subst⁻¹}
use mathlib.Core.Bool.{Bool, true, false, not, cond, ◌&&◌}
use mathlib.Core.List.{List, [], ◌∷◌}
use mathlib.Core.Logic.Iff
use mathlib.Core.Logic.{◌↔◌, ◌≢◌, ◌⊎◌, inl, inr, ⊎_elim}
use Prim.Native.Nat.{ℕ, ◌^◌, ◌≤◌, ◌<◌}
use native.Mathlib.Omega.{arith}
use borrow.Author.Tests.{ltb-false}
use lib.Dec.{T, T_not, not_T, ltb, ltb→lt, lt→ltb}
use lib.ListN.{length}
use Rattle.roles.specs.Sets.{all_below, Below, part_of}
use Rattle.roles.proofs.Tests.{T_and, not_test, unlike}
use Rattle.refusals.specs.Refusals.{Refusal, refusal, refuse}
use Rattle.written.specs.Print.{Print, kept, shown}
use Rattle.written.specs.Grounds.{OnGrounds, text}
use Rattle.written.proofs.Laws.{shown-text, Within, kept-within, shown-within, on-grounds, one-text}
use Rattle.meaning.specs.Events.{Decides}
use Rattle.meaning.specs.Rows.{Row, Decided, decide}
use Rattle.meaning.specs.Says.{Says}
use Rattle.meaning.proofs.ListLaws.{keep-law}
use Rattle.meaning.proofs.Theorems.{one_of_three}
use Rattle.area.specs.Layout.{good_bytes}
use Rattle.area.specs.State.{state_of}
use Rattle.calls.specs.Calls.{Look, valid, decide_of, look_of}
use Rattle.calls.specs.Histories.{Past, area, roles, PossibleAfter}
use Rattle.calls.proofs.CallLaws.{look-bad-area, look-no-permission, look-unknown, look-sees, look-decides, look-row, valid-law}
use Rattle.calls.proofs.Grounds.{unknown-set}
use Rattle.calls.proofs.Decisions.{past-good}
use Rattle.calls.proofs.Demands as demands
use Rattle.names.specs.Names.{good_table, Tables, part_at}
use Rattle.names.specs.Naming.{BadTable}
use Rattle.names.proofs.TableLaws.{part_length}
use Rattle.names.proofs.Theorems.{naming}
use Rattle.sheet.specs.Text.{larger, name_text, sheet_lines, sheet_text}
use Rattle.sheet.specs.Sheet.{sheet_bytes, sheet_refusals, sheet_of, longest_sheet}
use Rattle.sheet.specs.Says.{sheet_grounds, Believable, Shown, Sheets}
use Rattle.sheet.proofs.Parts.{named-nowhere, named}
use Rattle.sheet.proofs.Lengths.{names-short, sheet-length}
use Rattle.sheet.proofs.Shown.{mem-roles, mem-proved}

-- ---- the refusals, as what they say of the area and the tables

module _ (l works standard : List ℕ) (p s : ℕ) (d : List ℕ) where
  abbrev whole : List ℕ
  whole = sheet_text (name_text works standard) (look_of l p s).row s

  abbrev plain_refusals : List Refusal
  plain_refusals =
      refusal 1 (not (good_bytes l))
      ∷ refusal 17 (not (good_table works && good_table standard))
      ∷ refusal 3 (not (valid p))
      ∷ refusal 4 (not (part_of s (all_below (state_of l).roles)))
      ∷ refusal 16 (ltb (length d) sheet_bytes)
      ∷ []

  abbrev plain : Print
  plain = refuse plain_refusals (λ a. kept a d) (shown whole d)

  -- where the look answers k
  abbrev answered : ℕ → Print
  answered k = refuse (sheet_refusals k works standard d) (λ a. kept a d) (shown whole d)

  is-answered : sheet_of l works standard p s d ≡ answered (look_of l p s).decided.answer
  unfolding sheet_of
  is-answered = refl

  by-plain : sheet_of l works standard p s d ≡ plain
  by-plain = is-answered ∙ go (good_bytes l) refl (valid p) refl (part_of s (all_below (state_of l).roles)) refl
    where
      said : (k : ℕ) (x : Look) → look_of l p s ≡ x → x.decided.answer ≡ k → answered (look_of l p s).decided.answer ≡ answered k
      said k x e n = ap (λ (y : Look). answered y.decided.answer) e ∙ ap answered n

      -- an answer to a session is none of the refusals
      verdict : (w : Row) → answered (decide w s).answer ≡ cond (not (good_table works && good_table standard)) (kept 17 d) (cond (ltb (length d) sheet_bytes) (kept 16 d) (shown whole d))
      verdict w = ⊎_elim (λ e. ap answered e) (⊎_elim (λ e. ap answered e) (λ e. ap answered e)) (one_of_three w s)

      go : (a : Bool) → good_bytes l ≡ a → (b : Bool) → valid p ≡ b → (c : Bool) → part_of s (all_below (state_of l).roles) ≡ c → answered (look_of l p s).decided.answer ≡ plain
      go false g b v c k = said 1 _ (look-bad-area l p s g) refl ∙ sym (rw g refl)
      go true g false v c k = said 3 _ (look-no-permission l p s g v) refl ∙ sym (rw (g, v) refl)
      go true g true v false k = said 4 _ (look-unknown l p s g v k) refl ∙ sym (rw (g, v, k) refl)
      go true g true v true k = said _ _ (look-sees l p s g v k) refl ∙ verdict _ ∙ sym (rw (g, v, k) refl)

-- ---- on its grounds

-- one of two tables is bad
bad-tables : (works standard : List ℕ) → T (not (good_table works && good_table standard)) ↔ (BadTable works ⊎ BadTable standard)
bad-tables works standard = (
  (λ h. go (good_table works) refl (good_table standard) refl h),
  λ b. not_T (good_table works && good_table standard) (λ g.
      let t = (T_and (good_table works) (good_table standard)).0 g in
      ⊎_elim (λ x. T_not (good_table works) ((naming.refused works).1 x) t.0) (λ x. T_not (good_table standard) ((naming.refused standard).1 x) t.1) b),
)
  where
    go : (a : Bool) → good_table works ≡ a → (b : Bool) → good_table standard ≡ b → T (not (a && b)) → BadTable works ⊎ BadTable standard
    go false e b f h = inl ((naming.refused works).0 (subst⁻¹ (λ (x : Bool). T (not x)) e tt))
    go true e false f h = inr ((naming.refused standard).0 (subst⁻¹ (λ (x : Bool). T (not x)) f tt))
    go true e true f h = absurd h

module _ (l works standard : List ℕ) (p s : ℕ) (d : List ℕ) where
  whole-short : Tables works standard → length (whole l works standard p s d) ≤ longest_sheet
  whole-short t =
      let good = look-row l p s in
      sheet-length (name_text works standard) (names-short works standard t) (look_of l p s).row (decide (look_of l p s).row s).answer good.0 good.1

  -- a refusal by its number, which is not 0, or the sheet, with room for it
  record Refused : Type 0 where
    number : ℕ
    some : number ≢ 0
    keeps : plain l works standard p s d ≡ kept number d

  record IsSheet : Type 0 where
    shows : plain l works standard p s d ≡ shown (whole l works standard p s d) d
    short : length (whole l works standard p s d) ≤ longest_sheet
    room : length (whole l works standard p s d) ≤ length d
    decides : (look_of l p s).decided ≡ decide (look_of l p s).row s

  which : Refused ⊎ IsSheet
  which = go (good_bytes l) refl (good_table works) refl (good_table standard) refl (valid p) refl (part_of s (all_below (state_of l).roles)) refl (ltb (length d) sheet_bytes) refl
    where
      go : (a : Bool) → good_bytes l ≡ a → (b : Bool) → good_table works ≡ b → (c : Bool) → good_table standard ≡ c → (v : Bool) → valid p ≡ v
          → (k : Bool) → part_of s (all_below (state_of l).roles) ≡ k → (z : Bool) → ltb (length d) sheet_bytes ≡ z → Refused ⊎ IsSheet
      go false g b e c f v h k i z q = inl (record { number = 1; some = unlike tt; keeps = rw g refl })
      go true g false e c f v h k i z q = inl (record { number = 17; some = unlike tt; keeps = rw (g, e) refl })
      go true g true e false f v h k i z q = inl (record { number = 17; some = unlike tt; keeps = rw (g, e, f) refl })
      go true g true e true f false h k i z q = inl (record { number = 3; some = unlike tt; keeps = rw (g, e, f, h) refl })
      go true g true e true f true h false i z q = inl (record { number = 4; some = unlike tt; keeps = rw (g, e, f, h, i) refl })
      go true g true e true f true h true i true q = inl (record { number = 16; some = unlike tt; keeps = rw (g, e, f, h, i, q) refl })
      go true g true e true f true h true i false q =
          let n = whole-short (subst⁻¹ T e tt, subst⁻¹ T f tt) in
          let r : sheet_bytes ≤ length d = ltb-false (length d) sheet_bytes q in
          let look = look-sees l p s g h i in
          inr (record {
            shows = rw (g, e, f, h, i, q) refl;
            short = n;
            room = omega arith;
            decides = ap (λ (y : Look). y.decided) look ∙ sym (ap (λ (y : Look). decide y.row s) look);
          })

  -- every refusal writes nothing; the sheet is within its bound
  plain-within : Within longest_sheet d (plain l works standard p s d)
  plain-within = ⊎_elim
      (λ r. subst⁻¹ (Within longest_sheet d) r.keeps (kept-within longest_sheet d r.number))
      (λ i. subst⁻¹ (Within longest_sheet d) i.shows (shown-within longest_sheet d (whole l works standard p s d) i.short i.room))
      which

  sheet-answers : OnGrounds longest_sheet d (sheet_of l works standard p s d) (sheet_grounds l works standard p s d)
  sheet-answers =
      subst⁻¹ (λ (o : Print). OnGrounds longest_sheet d o (sheet_grounds l works standard p s d)) (by-plain l works standard p s d)
      (on-grounds longest_sheet d (shown (whole l works standard p s d) d) (plain_refusals l works standard p s d) (sheet_grounds l works standard p s d) refl (
        refl,
        not_test (good_bytes l) (T (good_bytes l)) ((λ x. x), (λ x. x)),
        (
          refl,
          bad-tables works standard,
          (
            refl,
            not_test (valid p) _ (valid-law p),
            (
              refl,
              unknown-set (state_of l).roles s,
              (
                refl,
                (ltb→lt (length d) sheet_bytes, lt→ltb (length d) sheet_bytes),
                tt,
              ),
            ),
          ),
        ),
      ) tt tt plain-within)

  -- answered 0 there is the sheet
  is-sheet : (sheet_of l works standard p s d).answer ≡ 0 → IsSheet
  is-sheet e = ⊎_elim (λ r. absurd (r.some (sym (ap (λ (o : Print). o.answer) (by-plain l works standard p s d ∙ r.keeps)) ∙ e))) (λ i. i) which

  written : (sheet_of l works standard p s d).answer ≡ 0 → text (sheet_of l works standard p s d) ≡ whole l works standard p s d
  written e =
      let i = is-sheet e in
      ap text (by-plain l works standard p s d ∙ i.shows) ∙ shown-text (whole l works standard p s d) d i.room

  verdict : (sheet_of l works standard p s d).answer ≡ 0 → whole l works standard p s d ≡ sheet_lines (name_text works standard) (look_of l p s).row (decide_of l p s).answer
  verdict e =
      let i = is-sheet e in
      ap (λ (x : Decided). sheet_lines (name_text works standard) (look_of l p s).row x.answer) (sym i.decides ∙ look-decides l p s)

-- ---- role by role

shown-so : (works standard : List ℕ) → Tables works standard → (r : ℕ) → r < 64 → Shown works standard r
shown-so works standard t r h = record {
  own = λ n. named works standard r (part_at works r) (sym (naming.own works standard r n)) (λ z. n (sym (part_length works t.0 r h) ∙ z));
  other = λ e n. named works standard r (part_at standard r) (sym (naming.other works standard r e)) (λ z. n (sym (part_length standard t.1 r h) ∙ z));
  number = λ e f. named-nowhere works standard r [] (sym ((naming.nameless works standard t r h).1 (e, f))) refl;
}

-- ---- over every past

recorded : (h : Past) (works standard : List ℕ) (p s : ℕ) (d : List ℕ) → Tables works standard → T (valid p) → Below (roles h) s → 36864 ≤ length d
    → (sheet_of (area h) works standard p s d).answer ≡ 0
recorded h works standard p s d t v b room =
    let few : s < 2 ^ (state_of (area h)).roles = subst⁻¹ (λ (n : ℕ). Below n s) (demands.header h).0 b in
    let no_table : ¬ (BadTable works ⊎ BadTable standard) =
    ⊎_elim (λ x. T_not (good_table works) ((naming.refused works).1 x) t.0) (λ x. T_not (good_table standard) ((naming.refused standard).1 x) t.1) in
    (((((sheet-answers (area h) works standard p s d).exactly.1 (λ n. n (past-good h))).1 no_table).1 (λ n. n ((valid-law p).0 v))).1 (λ n. omega arith)).1 (λ n. omega arith)

believable : (h : Past) (p s : ℕ) → T (valid p) → Below (roles h) s → Believable (roles h) (PossibleAfter h p) (look_of (area h) p s).row s
believable h p s v b =
    let w : Row = (look_of (area h) p s).row in
    let says : Says (roles h) (PossibleAfter h p) w = (demands.looking).says h p s v b in
    let good = (look-row (area h) p s).0 in
    let forced : Decides (PossibleAfter h p) s (decide_of (area h) p s).answer = demands.demand-2 h p s v b in
    record {
      denied = λ r. Iff.trans (mem-roles w.denied r good.denied-below) (says.denied r);
      proved = λ r. Iff.trans (mem-proved w.opens good.below r) (says.proved r);
      open-sets = λ o. Iff.trans (keep-law larger w.opens o) ((λ m. (m.1, (says.opens o).0 m.0)), (λ m. ((says.opens o).1 m.1, m.0)));
      verdict = subst (λ (x : Decided). Decides (PossibleAfter h p) s x.answer) ((demands.looking).goes_by (area h) p s forced.one_of) forced;
    }

pub sheets : Sheets
sheets = record {
  answers = sheet-answers;
  written = written;
  verdict = verdict;
  recorded = recorded;
  believable = believable;
  shown = shown-so;
  one-text = one-text;
}
