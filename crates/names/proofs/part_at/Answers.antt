-- `names::part_at` meets its contract. Assumes nothing.
use mathlib.Core.Path.{sym, ap, ◌∙◌}
use Prim.Native.Nat.{ℕ, ◌+◌}
use native.Mathlib.Omega.{arith}
use Rattle.names.proofs.TableLaws.{good-long, length-is, start_is, part_none, part-inside, part-is}
use Rattle.names.proofs.part_at.Goals as goal

pub half-start-requires : goal.half-start-requires
half-start-requires c = let h = good-long c.args.t.now c.requires.0 in omega arith

pub half-n-requires : goal.half-n-requires
half-n-requires c = let h = good-long c.args.t.now c.requires.0 in omega arith

pub returns-then-n-eq0 : goal.returns-then-n-eq0
returns-then-n-eq0 c =
    let a = c.args in
    record {
      bytes = part_none a.t.now a.r c.half-start.result c.half-n.result c.half-start.ensures.0 c.half-n.ensures.0 c.if-n-eq0.true;
      place = λ n. absurd (n (sym (length-is a.t.now a.r c.half-start.result c.half-n.result c.half-start.ensures.0 c.half-n.ensures.0) ∙ c.if-n-eq0.true));
    }

pub slice_bounds-result-end-2 : goal.slice_bounds-result-end-2
slice_bounds-result-end-2 c =
    part-inside c.args.t.now c.args.r c.half-start.result c.half-n.result c.half-start.ensures.0 c.half-n.ensures.0 c.requires.0 c.requires.1 c.if-n-eq0.false

pub returns : goal.returns
returns c =
    let a = c.args in
    record {
      bytes = part-is a.t.now a.r c.half-start.result c.half-n.result c.half-start.ensures.0 c.half-n.ensures.0;
      place = λ n. ap (λ (x : ℕ). (a.t.ref_ptr.0, x + a.t.ref_ptr.1)) (start_is a.t.now a.r c.half-start.result c.half-n.result c.half-start.ensures.0 c.half-n.ensures.0);
    }
