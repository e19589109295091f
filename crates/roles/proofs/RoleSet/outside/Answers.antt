-- `RoleSet::outside` meets its contract. Assumes nothing.
use mathlib.Core.Path.{sym, ap, ◌∙◌}
use native.Mathlib.Omega.{arith}
use Rattle.std.specs.Prelude.{◌≡◌, Bool, true, false, cond, eqb, ℕ, None, Some}
use Rattle.roles.specs.Sets.{part_of, without, lowest, outside}
use Rattle.roles.proofs.Naming.{named-is}
use Rattle.roles.proofs.RoleSet.outside.Goals as goal

-- whether anything is left says whether the one set is part of the other
left : (s t rest : ℕ) (e p : Bool) → rest ≡ without s t → e ≡ eqb rest 0 → e ≡ p → part_of s t ≡ p
unfolding part_of
left s t rest e p r q h = ap (λ (x : ℕ). eqb x 0) (sym r) ∙ sym q ∙ h

pub returns-then-is_empty : goal.returns-then-is_empty
returns-then-is_empty c =
    let s = c.args.self.bits in
    let t = c.args.o.bits in
    sym (named-is s t (omega arith) ∙ ap (λ (x : Bool). cond x None (Some (outside s t))) (left s t _ _ true c.without-rest.ensures c.is_empty.ensures c.if-is_empty.true))

pub returns : goal.returns
unfolding outside lowest
returns c =
    let s = c.args.self.bits in
    let t = c.args.o.bits in
    ap (λ (x : ℕ). Some (lowest x)) c.without-rest.ensures
    ∙ sym (named-is s t (omega arith) ∙ ap (λ (x : Bool). cond x None (Some (outside s t))) (left s t _ _ false c.without-rest.ensures c.is_empty.ensures c.if-is_empty.false))
