-- What the kinds say. Assumes nothing.
use mathlib.Core.Path.{◌≡◌, refl, sym, ap, ◌∙◌}
use mathlib.Core.Bool.{Bool, cond}
use Prim.Native.Nat.{ℕ, zero, suc}
use native.Mathlib.Omega.{arith}
use borrow.Author.Tests.{ne_eqb, lt-leb}
use lib.Dec.{leb}
use Rattle.roles.specs.Sets.{single}
use Rattle.meaning.specs.declared.Happening.TheVariants.{Given}
use Rattle.meaning.specs.Events.{roles_in, is_reply}
use Rattle.meaning.specs.Kinds.{happened, Kinds}

pub kinds : Kinds
unfolding happened
kinds = record { replies = λ s. (refl, refl); updates = λ r. (refl, refl) }

-- from 3 on, of which the call takes 3 alone
pub given-kind : (k x : ℕ) → (k ≡ 0 → ⊥) → (k ≡ 1 → ⊥) → (k ≡ 2 → ⊥) → happened k x ≡ Given x
unfolding happened
given-kind k x a b c = rw (ne_eqb k 0 a, ne_eqb k 1 b, ne_eqb k 2 c)

from-three : (k x : ℕ) → happened (suc (suc (suc k))) x ≡ Given x
from-three k x = given-kind (suc (suc (suc k))) x (λ e. omega arith) (λ e. omega arith) (λ e. omega arith)

-- kinds 0 and 1 are replies
pub reply-kind : (k x : ℕ) → is_reply (happened k x) ≡ leb k 1
unfolding happened
reply-kind zero x = refl
reply-kind (suc zero) x = refl
reply-kind (suc (suc zero)) x = refl
reply-kind (suc (suc (suc k))) x = ap is_reply (from-three k x) ∙ sym (lt-leb (suc (suc (suc k))) 1 (omega arith))

-- their number is a set, that of the other kinds a role
pub roles-kind : (k x : ℕ) → roles_in (happened k x) ≡ cond (leb k 1) x (single x)
unfolding happened roles_in
roles-kind zero x = refl
roles-kind (suc zero) x = refl
roles-kind (suc (suc zero)) x = refl
roles-kind (suc (suc (suc k))) x = ap roles_in (from-three k x) ∙ sym (ap (λ (b : Bool). cond b x (single x)) (lt-leb (suc (suc (suc k))) 1 (omega arith)))
