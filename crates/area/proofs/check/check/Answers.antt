-- `check::check` meets its contract: the guards and the tests are the rules. Assumes nothing.
use borrow.Author.Rules.{rules}
use mathlib.Core.Path.{◌≡◌, sym, ap, ◌∙◌, subst}
use Prim.Native.Nat.{ℕ, ◌-◌, ◌≤◌, ◌<◌}
use mathlib.Core.List.{List}
use borrow.Author.Tests.{eq-eqb, ne_eqb}
use lib.ListN.{length}
use Rattle.words.specs.Words.{words}
use Rattle.roles.proofs.Laws.{below64-all_below}
use Rattle.roles.specs.Sets.{all_below, most_roles}
use Rattle.meaning.specs.Events.{last_policy_state}
use Rattle.area.specs.Layout.{most_rows, area_bytes, rows_used, each_below, good_row_at, good_area, good_bytes}
use Rattle.area.specs.Parts.{zero_rows}
use Rattle.area.proofs.CheckLaws.{area-long, no-roles, many-roles, many-rows, wide-policy, area-made}
use Rattle.area.proofs.check.check.Goals as goal

module _ (l : List ℕ) (long : length l ≡ area_bytes) where
  whole : good_bytes l ≡ good_area (words l)
  unfolding good_bytes
  whole = rw (eq-eqb (length l) area_bytes long)

pub returns-then-a-ne-AREA_BYTES : goal.returns-then-a-ne-AREA_BYTES
unfolding good_bytes
returns-then-a-ne-AREA_BYTES c = rw (ne_eqb (length c.args.a.now) area_bytes c.if-a-ne-AREA_BYTES.true)

pub returns-then-n-lt1 : goal.returns-then-n-lt1
returns-then-n-lt1 c =
    let l = c.args.a.now in
    no-roles (words l) (subst (λ (n : ℕ). n < 1) c.get_word-n.ensures c.if-n-lt1.true) ∙ sym (whole l c.if-a-ne-AREA_BYTES.false)

pub returns-then-n-gt-MOST_ROLES : goal.returns-then-n-gt-MOST_ROLES
returns-then-n-gt-MOST_ROLES c =
    let l = c.args.a.now in
    many-roles (words l) (subst (λ (n : ℕ). 1 ≤ n) c.get_word-n.ensures c.if-n-lt1.false)
    (subst (λ (n : ℕ). most_roles < n) c.get_word-n.ensures c.if-n-gt-MOST_ROLES.true) ∙ sym (whole l c.if-a-ne-AREA_BYTES.false)

pub returns-then-used : goal.returns-then-used
returns-then-used c =
    let l = c.args.a.now in
    many-rows (words l) (subst (λ (n : ℕ). 1 ≤ n) c.get_word-n.ensures c.if-n-lt1.false)
    (subst (λ (n : ℕ). n ≤ most_roles) c.get_word-n.ensures c.if-n-gt-MOST_ROLES.false)
    (subst (λ (n : ℕ). most_rows < n) c.get_word-used.ensures c.if-used.true) ∙ sym (whole l c.if-a-ne-AREA_BYTES.false)

pub returns-then-policy-gt-LAST_POLICY_STATE : goal.returns-then-policy-gt-LAST_POLICY_STATE
returns-then-policy-gt-LAST_POLICY_STATE c =
    let l = c.args.a.now in
    wide-policy (words l) (subst (λ (n : ℕ). 1 ≤ n) c.get_word-n.ensures c.if-n-lt1.false)
    (subst (λ (n : ℕ). n ≤ most_roles) c.get_word-n.ensures c.if-n-gt-MOST_ROLES.false)
    (subst (λ (n : ℕ). n ≤ most_rows) c.get_word-used.ensures c.if-used.false)
    (subst (λ (n : ℕ). last_policy_state < n) c.get_word-policy.ensures c.if-policy-gt-LAST_POLICY_STATE.true) ∙ sym (whole l c.if-a-ne-AREA_BYTES.false)

pub rows_good-requires : goal.rows_good-requires
rows_good-requires c = (
  c.if-a-ne-AREA_BYTES.false,
  c.if-used.false,
  c.all_below.ensures ∙ below64-all_below c.get_word-n.result c.if-n-gt-MOST_ROLES.false ∙ ap all_below c.get_word-n.ensures,
)

pub returns : goal.returns
returns c =
    let l = c.args.a.now in
    let ws = words l in
    let used : c.get_word-used.result ≡ rows_used ws = c.get_word-used.ensures in
    area-made ws (subst (λ (n : ℕ). 1 ≤ n) c.get_word-n.ensures (search rules)) (subst (λ (n : ℕ). n ≤ most_roles) c.get_word-n.ensures (search rules))
    (subst (λ (n : ℕ). n ≤ most_rows) used c.if-used.false) (subst (λ (n : ℕ). n ≤ last_policy_state) c.get_word-policy.ensures (search rules)) (area-long l c.if-a-ne-AREA_BYTES.false)
    (c.rows_good.ensures ∙ ap (λ (n : ℕ). each_below n (good_row_at ws)) used)
    (c.rest_unused.ensures ∙ ap (λ (n : ℕ). zero_rows ws n (most_rows - n)) used)
    ∙ sym (whole l c.if-a-ne-AREA_BYTES.false)
