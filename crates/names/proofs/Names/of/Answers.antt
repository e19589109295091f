-- `names::Names::of` meets its contract. Assumes nothing.
use mathlib.Core.Path.{sym, ap, ◌∙◌, subst⁻¹}
use lib.Dec.{T}
use lib.ListN.{length}
use Rattle.names.specs.Names.{good_table}
use Rattle.names.proofs.TableLaws.{part_length, name-own, name-standard}
use Rattle.names.proofs.Names.of.Goals.{After-part_at-own}
use Rattle.names.proofs.Names.of.Goals as goal

own-good : (c : After-part_at-own) → T (good_table c.args.self.works.now)
own-good c = subst⁻¹ T c.args.self.own_good tt

other-good : (c : After-part_at-own) → T (good_table c.args.self.standard.now)
other-good c = subst⁻¹ T c.args.self.other_good tt

pub returns-then-own-ne0 : goal.returns-then-own-ne0
returns-then-own-ne0 c =
    let s = (goal.at.returns-then-own-ne0 c).After-part_at-own in
    let p = c.part_at-own in
    let n = c.args.self in
    record {
      bytes = p.ensures.bytes ∙ name-own n.works.now n.standard.now (own-good s) (other-good s) c.args.r c.requires (λ e. c.if-own-ne0.true (ap length p.ensures.bytes ∙ e));
      own = p.ensures.place;
      other = λ e m. absurd (c.if-own-ne0.true (ap length p.ensures.bytes ∙ part_length n.works.now (own-good s) c.args.r c.requires ∙ e));
    }

pub returns : goal.returns
returns c =
    let s = (goal.at.returns c).After-part_at-own in
    let p = c.part_at-own in
    let q = c.part_at in
    let n = c.args.self in
    let z = sym (ap length p.ensures.bytes) ∙ c.if-own-ne0.false in
    record {
      bytes = q.ensures.bytes ∙ name-standard n.works.now n.standard.now (own-good s) (other-good s) c.args.r c.requires z;
      own = λ m. absurd (m (sym (part_length n.works.now (own-good s) c.args.r c.requires) ∙ z));
      other = λ e m. q.ensures.place m;
    }
