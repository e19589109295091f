-- The rules of a good area say that it holds a good state. Assumes nothing.
use mathlib.Core.Path.{◌≡◌, sym, ap, ◌∙◌, subst, subst⁻¹}
use mathlib.Core.Bool.{Bool, true, false, not, ◌&&◌, ◌||◌}
use mathlib.Core.List.{List}
use mathlib.Core.Logic.{◌↔◌}
use Prim.Native.Nat.{ℕ, zero, suc, ◌+◌, ◌*◌, ◌≤◌, ◌<◌}
use native.Mathlib.Decide.{ℕ_discrete}
use native.Mathlib.Omega.{arith}
use lib.Dec.{T, eqb, ltb→lt, lt→ltb, leb→le, le→leb}
use lib.ListN.{length, get_or, drop}
use Rattle.words.specs.Words.{all_zero}
use Rattle.roles.specs.Sets.{all_below, most_roles}
use Rattle.roles.proofs.Tests.{T_and}
use Rattle.roles.proofs.Laws.{leb-all_below}
use Rattle.meaning.specs.Rows.{most_opens}
use Rattle.meaning.specs.Events.{last_permission, last_policy_state}
use Rattle.opens.specs.Opens.{opens_good, places_good}
use Rattle.opens.proofs.OpenRules.{all_of-law, opens_good-law}
use Rattle.area.specs.Layout.{most_rows, content_words, body_words, area_words, role_count, rows_used, policy_state, contents, bodies, permission_at, count_at, denied_at, places_at, opens_at, permission_before, each_below, row_rules, good_row_at, area_rules, good_area}
use Rattle.area.specs.State.{Entry, State, GoodRow, GoodRows, GoodState, pad, each, content, body, words_of, entry_at, entries_from, held_by}
use Rattle.area.proofs.RowLaws.{none, GoodEntry, row-good, rows-ascending}
use Rattle.area.proofs.Cells.{pad-behind, length-each, length-entries}
use Rattle.area.proofs.Held.{content-wide, body-wide, length-words_of, contents-is, bodies-is, roles-is, policy-is, used-is, content-is, body_is, entry-is, held-words, opens-long, words-held}

pub each_below-law : (n : ℕ) (p : ℕ → Bool) → T (each_below n p) ↔ ((k : ℕ) → k < n → T (p k))
each_below-law zero p = ((λ h k u. absurd (let z : ⊥ = omega arith in z)), (λ f. tt))
each_below-law (suc n) p = (
  (λ h k u. let q = (T_and (each_below n p) (p n)).0 h in elim (ℕ_discrete k n) [
    | yes e ↦ subst⁻¹ (λ (j : ℕ). T (p j)) e q.1
    | no d ↦ (each_below-law n p).0 q.0 k (omega arith)
  ]),
  λ f. (T_and (each_below n p) (p n)).1 ((each_below-law n p).1 (λ k u. f k (omega arith)), f n (omega arith)),
)

-- ---- a row

-- something is denied or open, for the words and for the row
says-law : (d c q : ℕ) → q ≡ c → T (not (eqb d 0) || not (eqb c 0)) ↔ T (not (eqb d 0 && eqb q 0))
says-law d c q e = rw e (go (eqb d 0) (eqb c 0))
  where
    go : (a b : Bool) → T (not a || not b) ↔ T (not (a && b))
    go true true = ((λ h. h), (λ h. h))
    go true false = ((λ h. h), (λ h. h))
    go false b = ((λ h. h), (λ h. h))

-- what the rules of row i say
pub record RowFacts (ws : List ℕ) (i : ℕ) : Type 0 where
  pub few : count_at ws i ≤ most_opens
  pub above : permission_before ws i < permission_at ws i
  pub valid : permission_at ws i ≤ last_permission
  pub row : GoodRow (role_count ws) (entry_at ws i).row
  pub behind : T (all_zero (drop (count_at ws i) (places_at ws i)))

module _ (ws : List ℕ) (long : length ws ≡ area_words) (used : rows_used ws ≤ most_rows) (i : ℕ) (h : i < rows_used ws) where
  abbrev all : ℕ
  all = all_below (role_count ws)

  places-law : T (places_good all (denied_at ws i) (count_at ws i) (places_at ws i)) ↔ (T (opens_good all (denied_at ws i) (opens_at ws i)) × T (all_zero (drop (count_at ws i) (places_at ws i))))
  unfolding places_good
  places-law = T_and (opens_good all (denied_at ws i) (opens_at ws i)) (all_zero (drop (count_at ws i) (places_at ws i)))

  pub row-law : T (good_row_at ws i) ↔ RowFacts ws i
  unfolding good_row_at
  row-law = (
    (λ t.
        let r = (all_of-law (row_rules ws i)).0 t in
        let few = leb→le (count_at ws i) most_opens r.1.1.0 in
        let len = opens-long ws long used i h few in
        let d = (leb-all_below (role_count ws) (denied_at ws i)).0 r.1.1.1.0 in
        let places = places-law.0 r.1.1.1.1.1.0 in
        record {
          few = few;
          above = ltb→lt (permission_before ws i) (permission_at ws i) r.1.0;
          valid = leb→le (permission_at ws i) last_permission r.0;
          row = record {
            good = (opens_good-law (role_count ws) (denied_at ws i) (opens_at ws i) d).0 places.0;
            says = (says-law (denied_at ws i) (count_at ws i) (length (opens_at ws i)) len).0 r.1.1.1.1.0;
            few = omega arith;
          };
          behind = places.1;
        }),
    λ f.
        let g = f.row in
        let d = g.good.denied-below in
        let len = opens-long ws long used i h f.few in
        (all_of-law (row_rules ws i)).1 (
          le→leb (permission_at ws i) last_permission f.valid,
          (
            lt→ltb (permission_before ws i) (permission_at ws i) f.above,
            (
              le→leb (count_at ws i) most_opens f.few,
              (
                (leb-all_below (role_count ws) (denied_at ws i)).1 d,
                (
                  (says-law (denied_at ws i) (count_at ws i) (length (opens_at ws i)) len).1 g.says,
                  (places-law.1 ((opens_good-law (role_count ws) (denied_at ws i) (opens_at ws i) d).1 g.good, f.behind), tt),
                ),
              ),
            ),
          ),
        ),
  )

-- ---- the area

pub record AreaFacts (ws : List ℕ) : Type 0 where
  pub some-roles : 1 ≤ role_count ws
  pub most-roles : role_count ws ≤ most_roles
  pub used : rows_used ws ≤ most_rows
  pub policy : policy_state ws ≤ last_policy_state
  pub rows : (i : ℕ) → i < rows_used ws → RowFacts ws i
  pub no-contents : T (all_zero (drop (rows_used ws * content_words) (contents ws)))
  pub no-bodies : T (all_zero (drop (rows_used ws * body_words) (bodies ws)))

pub area-law : (ws : List ℕ) → length ws ≡ area_words → T (good_area ws) ↔ AreaFacts ws
unfolding good_area
area-law ws long = (
  (λ t.
      let r = (all_of-law (area_rules ws)).0 t in
      let used = leb→le (rows_used ws) most_rows r.1.1.0 in
      record {
        some-roles = leb→le 1 (role_count ws) r.0;
        most-roles = leb→le (role_count ws) most_roles r.1.0;
        used = used;
        policy = leb→le (policy_state ws) last_policy_state r.1.1.1.0;
        rows = λ i h. (row-law ws long used i h).0 ((each_below-law (rows_used ws) (good_row_at ws)).0 r.1.1.1.1.0 i h);
        no-contents = r.1.1.1.1.1.0;
        no-bodies = r.1.1.1.1.1.1.0;
      }),
  λ f. (all_of-law (area_rules ws)).1 (
    le→leb 1 (role_count ws) f.some-roles,
    (
      le→leb (role_count ws) most_roles f.most-roles,
      (
        le→leb (rows_used ws) most_rows f.used,
        (
          le→leb (policy_state ws) last_policy_state f.policy,
          (
            (each_below-law (rows_used ws) (good_row_at ws)).1 (λ i h. (row-law ws long f.used i h).1 (f.rows i h)),
            (f.no-contents, (f.no-bodies, tt)),
          ),
        ),
      ),
    ),
  ),
)

-- ---- from a good area to a good state

rows-good : (ws : List ℕ) (i k : ℕ) → ((j : ℕ) → i ≤ j → j < i + k → RowFacts ws j) → GoodRows (role_count ws) (permission_before ws i) (entries_from ws i k)
unfolding entries_from permission_before
rows-good ws i zero f = tt
rows-good ws i (suc k) f =
    let r = f i (omega arith) (omega arith) in
    (r.above, r.valid, r.row, rows-good ws (suc i) k (λ j u v. f j (omega arith) (omega arith)))

pub area-holds : (ws : List ℕ) → length ws ≡ area_words → T (good_area ws) → GoodState (held_by ws) × (words_of (held_by ws) ≡ ws)
unfolding held_by permission_before
area-holds ws long t =
    let f = (area-law ws long).0 t in (
      record {
        some-roles = f.some-roles;
        most-roles = f.most-roles;
        most-rows = omega (arith, length-entries ws 0 (rows_used ws), f.used);
        policy-small = f.policy;
        good-rows = rows-good ws 0 (rows_used ws) (λ j u v. f.rows j (omega arith));
      },
      words-held ws long f.used (λ i h. ((f.rows i h).few, (f.rows i h).behind)) f.no-contents f.no-bodies,
    )

-- ---- from a good state to a good area

zeros-behind : (n : ℕ) (l whole : List ℕ) (u : ℕ) → u ≡ length l → whole ≡ pad n l → length l ≤ n → T (all_zero (drop u whole))
zeros-behind n l whole u e w h = rw (e, w) (pad-behind n l h)

module _ (s : State) (g : GoodState s) where
  pub facts : (i : ℕ) → i < length s.rows → GoodEntry s.roles 0 (get_or s.rows i none)
  facts = row-good s.roles 0 s.rows g.good-rows

  pub few-opens : (i : ℕ) → i < length s.rows → length (get_or s.rows i none).row.opens ≤ most_opens
  few-opens i u = (facts i u).good-row.few

  pub held-is : held_by (words_of s) ≡ s
  held-is = held-words s g.most-rows few-opens

  above-is : (i : ℕ) → i < length s.rows → permission_before (words_of s) i < (get_or s.rows i none).permission
  unfolding permission_before
  above-is zero u = (facts zero u).above
  above-is (suc i) u =
      subst⁻¹ (λ (l : List ℕ). get_or l 0 0 < (get_or s.rows (suc i) none).permission) (content-is s g.most-rows i (omega arith))
      (rows-ascending s.roles 0 s.rows g.good-rows i (suc i) (omega arith) u)

  row_is : (i : ℕ) → i < length s.rows → RowFacts (words_of s) i
  row_is i u =
      let f = facts i u in
      let e = get_or s.rows i none in
      let few = f.good-row.few in
      let c = content-is s g.most-rows i u in
      let b = body_is s g.most-rows i u in
      record {
        few = subst⁻¹ (λ (l : List ℕ). get_or l 1 0 ≤ most_opens) c few;
        above = subst⁻¹ (λ (l : List ℕ). permission_before (words_of s) i < get_or l 0 0) c (above-is i u);
        valid = subst⁻¹ (λ (l : List ℕ). get_or l 0 0 ≤ last_permission) c f.valid;
        row = subst⁻¹ (λ (x : Entry). GoodRow (role_count (words_of s)) x.row) (entry-is s g.most-rows i u few) (subst⁻¹ (λ (n : ℕ). GoodRow n e.row) (roles-is s) f.good-row);
        behind = subst⁻¹ (λ (l : List ℕ). T (all_zero (drop (get_or l 1 0) (places_at (words_of s) i)))) c
            (subst⁻¹ (λ (l : List ℕ). T (all_zero (drop (length e.row.opens) (drop 1 l)))) b (pad-behind most_opens e.row.opens few));
      }

  pub state-area : T (good_area (words_of s))
  state-area =
      let few : length s.rows ≤ most_rows = g.most-rows in
      let cs = length-each content content_words content-wide s.rows in
      let bs = length-each body body_words body-wide s.rows in
      (area-law (words_of s) (length-words_of s)).1 (record {
        some-roles = subst⁻¹ (λ (n : ℕ). 1 ≤ n) (roles-is s) g.some-roles;
        most-roles = subst⁻¹ (λ (n : ℕ). n ≤ most_roles) (roles-is s) g.most-roles;
        used = subst⁻¹ (λ (n : ℕ). n ≤ most_rows) (used-is s) few;
        policy = subst⁻¹ (λ (n : ℕ). n ≤ last_policy_state) (policy-is s) g.policy-small;
        rows = λ i h. row_is i (subst (λ (n : ℕ). i < n) (used-is s) h);
        no-contents = zeros-behind (most_rows * content_words) (each content s.rows) (contents (words_of s)) (rows_used (words_of s) * content_words)
            (ap (λ (n : ℕ). n * content_words) (used-is s) ∙ sym cs) (contents-is s) (omega (arith, cs));
        no-bodies = zeros-behind (most_rows * body_words) (each body s.rows) (bodies (words_of s)) (rows_used (words_of s) * body_words)
            (ap (λ (n : ℕ). n * body_words) (used-is s) ∙ sym bs) (bodies-is s) (omega (arith, bs));
      })
