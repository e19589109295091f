-- `opens::places_few` meets its contract: each arm asks for the number of open sets that is there. Assumes nothing.
use Prim.Native.Nat.{ℕ, zero, suc, ◌≤◌}
use mathlib.Core.Path.{◌≡◌}
use native.Mathlib.Omega.{arith}
use Rattle.words.specs.Words.{words}
use Rattle.opens.proofs.Halves.{none-arm, few-arm, not-few}
use Rattle.opens.proofs.places_few.Goals as goal

-- none of the numbers below n
abbrev Passes : ℕ → ℕ → Type 0
Passes zero c = Unit {0}
Passes (suc n) c = Passes n c × (c ≡ n → ⊥)

beyond : (n c : ℕ) → Passes n c → n ≤ c
beyond zero c p = omega arith
beyond (suc n) c p = let r = beyond n c p.0 in let d = p.1 in omega arith

pub returns-in-0 : goal.returns-in-0
returns-in-0 c = let a = c.args in rw c.is_empty.ensures (none-arm _ _ a.at (words a.a.now) c.in-0.is c.are_zero.ensures)

pub returns-in-1 : goal.returns-in-1
returns-in-1 c = let a = c.args in few-arm _ _ a.at (words a.a.now) 1 (omega arith) c.are_zero-in-1.ensures c.opens_good.ensures c.in-1.is (omega arith)

pub returns-in-2 : goal.returns-in-2
returns-in-2 c = let a = c.args in few-arm _ _ a.at (words a.a.now) 2 (omega arith) c.are_zero-in-2.ensures c.opens_good-in-2.ensures c.in-2.is (omega arith)

pub returns-in-3 : goal.returns-in-3
returns-in-3 c = let a = c.args in few-arm _ _ a.at (words a.a.now) 3 (omega arith) c.are_zero-in-3.ensures c.opens_good-in-3.ensures c.in-3.is (omega arith)

pub returns-in-4 : goal.returns-in-4
returns-in-4 c = let a = c.args in few-arm _ _ a.at (words a.a.now) 4 (omega arith) c.are_zero-in-4.ensures c.opens_good-in-4.ensures c.in-4.is (omega arith)

pub returns-in-5 : goal.returns-in-5
returns-in-5 c = let a = c.args in few-arm _ _ a.at (words a.a.now) 5 (omega arith) c.are_zero-in-5.ensures c.opens_good-in-5.ensures c.in-5.is (omega arith)

pub returns-in-6 : goal.returns-in-6
returns-in-6 c = let a = c.args in few-arm _ _ a.at (words a.a.now) 6 (omega arith) c.are_zero-in-6.ensures c.opens_good-in-6.ensures c.in-6.is (omega arith)

pub returns-in-7 : goal.returns-in-7
returns-in-7 c = let a = c.args in few-arm _ _ a.at (words a.a.now) 7 (omega arith) c.are_zero-in-7.ensures c.opens_good-in-7.ensures c.in-7.is (omega arith)

pub returns-in-8 : goal.returns-in-8
returns-in-8 c = let a = c.args in few-arm _ _ a.at (words a.a.now) 8 (omega arith) c.are_zero-in-8.ensures c.opens_good-in-8.ensures c.in-8.is (omega arith)

pub returns-in-9 : goal.returns-in-9
returns-in-9 c = let a = c.args in few-arm _ _ a.at (words a.a.now) 9 (omega arith) c.are_zero-in-9.ensures c.opens_good-in-9.ensures c.in-9.is (omega arith)

pub returns-in-10 : goal.returns-in-10
returns-in-10 c = let a = c.args in few-arm _ _ a.at (words a.a.now) 10 (omega arith) c.are_zero-in-10.ensures c.opens_good-in-10.ensures c.in-10.is (omega arith)

pub returns-in_default : goal.returns-in_default
returns-in_default c = let a = c.args in not-few _ _ a.at (words a.a.now) (beyond 11 _ c.in_default.in_default-own.rest)
