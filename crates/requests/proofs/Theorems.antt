-- What a reader of requests can rely on. Assumes nothing.
use mathlib.Core.Path.{◌≡◌, sym, ap, ◌∙◌, subst}
use mathlib.Core.List.{List}
use mathlib.Core.Logic.{◌↔◌, ◌⊎◌, ⊎_elim}
use Prim.Native.Nat.{ℕ, ◌≤◌}
use lib.ListN.{length}
use Rattle.text.specs.Ascii.{lf, Lacks}
use Rattle.requests.specs.Request.{most_bytes, request_text, InRange, request_of}
use Rattle.requests.specs.Readings.{Readings}
use Rattle.requests.specs.declared.Request.{Request}
use Rattle.requests.specs.declared.Request.TheVariants.{Unreadable}
use Rattle.requests.proofs.RequestLaws as laws
use Rattle.requests.proofs.Readings as read

-- what was printed reads back
pub request-back : (q : Request) → InRange q → request_of (request_text q) ≡ q
request-back = laws.request-back

-- a line is unreadable, or it is the text of what it reads as
pub request-only : (s : List ℕ) → (request_of s ≡ Unreadable) ⊎ ((s ≡ request_text (request_of s)) × InRange (request_of s))
request-only = laws.request-only

-- a line reads as q exactly when it is the text of q, and the numbers of q lie in their ranges
pub request-law : (s : List ℕ) (q : Request) → ((request_of s ≡ q) × (q ≡ Unreadable → ⊥)) ↔ ((s ≡ request_text q) × InRange q)
request-law s q = (
  (λ p. ⊎_elim (λ u. absurd (p.1 (sym p.0 ∙ u))) (λ r. subst (λ (x : Request). (s ≡ request_text x) × InRange x) p.0 r) (request-only s)),
  λ p. (ap request_of p.0 ∙ request-back q p.1, λ u. subst InRange u p.1),
)

-- every request that has a text fits a line
pub request-length : (q : Request) → InRange q → length (request_text q) ≤ most_bytes
request-length = laws.request-length

-- no text of a request holds what ends a line
pub request-nolf : (q : Request) → Lacks lf (request_text q)
request-nolf = laws.request-nolf

-- lines on both sides of what reads
pub readings : Readings
readings = read.readings
