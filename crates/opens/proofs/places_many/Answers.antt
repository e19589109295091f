-- `opens::places_many` meets its contract: each arm asks for the number of open sets that is there. Assumes nothing.
use mathlib.Core.Path.{◌≡◌}
use Prim.Native.Nat.{ℕ, ◌≤◌}
use native.Mathlib.Omega.{arith}
use Rattle.words.specs.Words.{words}
use Rattle.meaning.specs.Rows.{most_opens}
use Rattle.opens.specs.Opens.{few_opens}
use Rattle.opens.proofs.Halves.{many-arm, not-many}
use Rattle.opens.proofs.places_many.Goals as goal

fewer : {c : ℕ} → c ≤ most_opens → (c ≡ 11 → ⊥) → (c ≡ 12 → ⊥) → (c ≡ 13 → ⊥) → (c ≡ 14 → ⊥) → (c ≡ 15 → ⊥) → c ≤ few_opens
fewer h x₁ x₂ x₃ x₄ x₅ = omega arith

pub returns-in-11 : goal.returns-in-11
returns-in-11 c = let a = c.args in many-arm _ _ a.at (words a.a.now) 11 (omega arith) c.are_zero.ensures c.opens_good.ensures c.in-11.is (omega arith) (omega arith)

pub returns-in-12 : goal.returns-in-12
returns-in-12 c = let a = c.args in many-arm _ _ a.at (words a.a.now) 12 (omega arith) c.are_zero-in-12.ensures c.opens_good-in-12.ensures c.in-12.is (omega arith) (omega arith)

pub returns-in-13 : goal.returns-in-13
returns-in-13 c = let a = c.args in many-arm _ _ a.at (words a.a.now) 13 (omega arith) c.are_zero-in-13.ensures c.opens_good-in-13.ensures c.in-13.is (omega arith) (omega arith)

pub returns-in-14 : goal.returns-in-14
returns-in-14 c = let a = c.args in many-arm _ _ a.at (words a.a.now) 14 (omega arith) c.are_zero-in-14.ensures c.opens_good-in-14.ensures c.in-14.is (omega arith) (omega arith)

pub returns-in-15 : goal.returns-in-15
returns-in-15 c = let a = c.args in many-arm _ _ a.at (words a.a.now) 15 (omega arith) c.are_zero-in-15.ensures c.opens_good-in-15.ensures c.in-15.is (omega arith) (omega arith)

pub returns-in_default : goal.returns-in_default
returns-in_default c = let r = c.in_default.in_default-own.rest in not-many _ _ c.args.at (words c.args.a.now) (fewer c.requires.1 r.0.0.0.0.1 r.0.0.0.1 r.0.0.1 r.0.1 r.1)
