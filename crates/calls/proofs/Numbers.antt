-- An answer is known by its number, so a contract allows one outcome. Assumes nothing.
use mathlib.Core.Path.{◌≡◌, refl, sym, ap, ◌∙◌, subst, subst⁻¹}
use mathlib.Core.Bool.{Bool, cond, ◌||◌}
use mathlib.Core.Logic.{◌≢◌, ⊎_elim}
use Prim.Native.Nat.{ℕ}
use lib.Dec.{T, eqb}
use Rattle.std.specs.Prelude.{⊤, Result, Ok, Err}
use Rattle.roles.proofs.Tests.{unlike}
use Rattle.meaning.specs.Rows as meaning
use Rattle.meaning.specs.Events as meaning-events
use Rattle.rows.specs.declared.Verdict.{Verdict}
use Rattle.rows.specs.declared.Verdict.TheVariants.{Deny, Allow, Undecided}
use Rattle.rows.proofs.Numbers.{verdict-one}
use Rattle.calls.specs.declared.Refusal.{Refusal}
use Rattle.calls.specs.declared.Refusal.TheVariants.{BadArea, BadRoleCount, NoPermission, UnknownRole, BadVerdict, Contradiction, Full, Late, Ahead}
use Rattle.calls.specs.declared.Kept.{Kept}
use Rattle.calls.specs.declared.Kept.TheVariants.{Recorded, Forgotten}
use Rattle.calls.specs.Answers.{refusal_number, kept_number, done_number, verdict_number, number_of, decided_of}
use Rattle.calls.specs.Demands as demands

-- the refusal of a number
refusal_of : ℕ → Refusal
refusal_of a =
    cond (eqb a 1) BadArea (cond (eqb a 2) BadRoleCount (cond (eqb a 3) NoPermission (cond (eqb a 4) UnknownRole (cond (eqb a 5) BadVerdict
    (cond (eqb a 6) Contradiction (cond (eqb a 7) Full (cond (eqb a 13) Late Ahead)))))))

refusal_back : (r : Refusal) → refusal_of (refusal_number r) ≡ r
unfolding refusal_of
refusal_back BadArea = refl
refusal_back BadRoleCount = refl
refusal_back NoPermission = refl
refusal_back UnknownRole = refl
refusal_back BadVerdict = refl
refusal_back Contradiction = refl
refusal_back Full = refl
refusal_back Late = refl
refusal_back Ahead = refl

pub refusal-one : (a b : Refusal) → refusal_number a ≡ refusal_number b → a ≡ b
refusal-one a b e = sym (refusal_back a) ∙ ap refusal_of e ∙ refusal_back b

-- no refusal is 0
pub refused : (r : Refusal) → refusal_number r ≢ 0
refused BadArea e = unlike tt e
refused BadRoleCount e = unlike tt e
refused NoPermission e = unlike tt e
refused UnknownRole e = unlike tt e
refused BadVerdict e = unlike tt e
refused Contradiction e = unlike tt e
refused Full e = unlike tt e
refused Late e = unlike tt e
refused Ahead e = unlike tt e

-- the answers of a number
kept_of : ℕ → Result Kept Refusal
kept_of a = cond (eqb a 0) (Ok Recorded) (cond (eqb a 8) (Ok Forgotten) (Err (refusal_of a)))

done_of : ℕ → Result ⊤ Refusal
done_of a = cond (eqb a 0) (Ok tt) (Err (refusal_of a))

kept-refused : (r : Refusal) → kept_of (refusal_number r) ≡ Err (refusal_of (refusal_number r))
unfolding kept_of
kept-refused BadArea = refl
kept-refused BadRoleCount = refl
kept-refused NoPermission = refl
kept-refused UnknownRole = refl
kept-refused BadVerdict = refl
kept-refused Contradiction = refl
kept-refused Full = refl
kept-refused Late = refl
kept-refused Ahead = refl

done-refused : (r : Refusal) → done_of (refusal_number r) ≡ Err (refusal_of (refusal_number r))
unfolding done_of
done-refused BadArea = refl
done-refused BadRoleCount = refl
done-refused NoPermission = refl
done-refused UnknownRole = refl
done-refused BadVerdict = refl
done-refused Contradiction = refl
done-refused Full = refl
done-refused Late = refl
done-refused Ahead = refl

kept_back : (r : Result Kept Refusal) → kept_of (number_of kept_number r) ≡ r
unfolding kept_of
kept_back (Ok Recorded) = refl
kept_back (Ok Forgotten) = refl
kept_back (Err r) = kept-refused r ∙ ap (λ (x : Refusal). Err x) (refusal_back r)

done_back : (r : Result ⊤ Refusal) → done_of (number_of done_number r) ≡ r
unfolding done_of
done_back (Ok x) = refl
done_back (Err r) = done-refused r ∙ ap (λ (x : Refusal). Err x) (refusal_back r)

pub one-outcome : demands.OneOutcome
one-outcome = record {
  events = λ o r s l m g h. (sym (kept_back r) ∙ ap kept_of (g.answer ∙ sym h.answer) ∙ kept_back s, g.area ∙ sym h.area);
  others = λ o r s l m g h. (sym (done_back r) ∙ ap done_of (g.answer ∙ sym h.answer) ∙ done_back s, g.area ∙ sym h.area);
}

-- ---- decisions

abbrev answer : meaning.Decided → ℕ
answer d = d.answer

is_verdict : ℕ → Bool
is_verdict a = eqb a 10 || (eqb a 11 || eqb a 12)

verdict-is : (v : Verdict) → T (is_verdict (verdict_number v))
unfolding is_verdict
verdict-is Deny = tt
verdict-is Allow = tt
verdict-is (Undecided r) = tt

refusal-is-not : (r : Refusal) → ¬ (T (is_verdict (refusal_number r)))
unfolding is_verdict
refusal-is-not BadArea t = t
refusal-is-not BadRoleCount t = t
refusal-is-not NoPermission t = t
refusal-is-not UnknownRole t = t
refusal-is-not BadVerdict t = t
refusal-is-not Contradiction t = t
refusal-is-not Full t = t
refusal-is-not Late t = t
refusal-is-not Ahead t = t

-- no refusal is a verdict
pub refusal-no-verdict : (r : Refusal) → ¬ (meaning-events.Verdict (refusal_number r))
unfolding is_verdict
refusal-no-verdict r = ⊎_elim (λ e. refusal-is-not r (subst⁻¹ is e tt)) (⊎_elim (λ e. refusal-is-not r (subst⁻¹ is e tt)) (λ e. refusal-is-not r (subst⁻¹ is e tt)))
  where
    is : ℕ → Type 0
    is a = T (is_verdict a)

pub verdict-no-refusal : (v : Verdict) (r : Refusal) → verdict_number v ≡ refusal_number r → ⊥
verdict-no-refusal v r e = refusal-is-not r (subst (λ (a : ℕ). T (is_verdict a)) e (verdict-is v))

decided-one : (r s : Result Verdict Refusal) → decided_of r ≡ decided_of s → r ≡ s
decided-one (Ok v) (Ok w) e = ap (λ (x : Verdict). Ok x) (verdict-one v w e)
decided-one (Ok v) (Err b) e = absurd (verdict-no-refusal v b (ap answer e))
decided-one (Err a) (Ok w) e = absurd (verdict-no-refusal w a (sym (ap answer e)))
decided-one (Err a) (Err b) e = ap (λ (x : Refusal). Err x) (refusal-one a b (ap answer e))

pub decided-number : (d : Result Verdict Refusal) → number_of verdict_number d ≡ (decided_of d).answer
decided-number (Ok v) = refl
decided-number (Err r) = refl

pub one-decision : demands.OneDecision
one-decision d r s g h = decided-one r s (g ∙ sym h)
