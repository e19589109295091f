-- A Q line answered 12 has the role that decide gives as a third field, and no other answer has one. Assumes nothing.
use mathlib.Core.Path.{◌≡◌, refl, sym, ap, ◌∙◌}
use mathlib.Core.List.{List, [], ◌∷◌, ◌++◌, append-nil, append_assoc}
use mathlib.Core.Logic.{◌≢◌}
use Prim.Native.Nat.{ℕ, ◌<◌}
use native.Mathlib.Omega.{arith}
use lib.Dec.{T}
use Rattle.roles.specs.Sets.{most_roles}
use Rattle.meaning.specs.Rows.{Decided}
use Rattle.calls.specs.Calls.{decide_of}
use Rattle.calls.proofs.CallLaws.{decide-role}
use Rattle.calls.proofs.Demands.{whom}
use Rattle.text.specs.Ascii.{space, lf}
use Rattle.text.specs.Number.{number_text}
use Rattle.requests.specs.declared.Request.{Request}
use Rattle.requests.specs.declared.Request.TheVariants.{Open, Told, Decide, Forget, Show, Unreadable}
use Rattle.answers.specs.Answers.{answer_of, is_decide, ThirdField}
use Rattle.answers.specs.Texts.{role_text, answer_text}
use Rattle.answers.proofs.Texts.{a-role, no-role}

-- an answer without a role, and one with a role
two_fields : (k : ℕ) (a : Decided) → a.role ≡ most_roles → answer_text k a ≡ number_text k ++ (space ∷ []) ++ number_text a.answer ++ lf ∷ []
unfolding answer_text
two_fields k a e =
    ap (λ (t : List ℕ). number_text k ++ (space ∷ []) ++ number_text a.answer ++ t ++ lf ∷ []) (ap role_text e ∙ no-role most_roles (omega arith))
    ∙ ap (λ (t : List ℕ). t ++ lf ∷ []) (append-nil (number_text k ++ (space ∷ []) ++ number_text a.answer))

three-fields : (k : ℕ) (a : Decided) → a.role < most_roles → answer_text k a ≡ number_text k ++ (space ∷ []) ++ number_text a.answer ++ (space ∷ []) ++ number_text a.role ++ lf ∷ []
unfolding answer_text
three-fields k a h =
    ap (λ (t : List ℕ). number_text k ++ (space ∷ []) ++ number_text a.answer ++ t ++ lf ∷ []) (a-role a.role h)
    ∙ ap (λ (t : List ℕ). t ++ lf ∷ []) (sym (append_assoc (number_text k ++ (space ∷ []) ++ number_text a.answer) (space ∷ []) (number_text a.role)))

no_name : (l : List ℕ) (q : Request) → ¬ (T (is_decide q) × ((answer_of l q).answer.answer ≡ 12)) → (answer_of l q).answer.role ≡ most_roles
unfolding answer_of
no_name l (Open n g) h = refl
no_name l (Told e) h = refl
no_name l (Decide p s) h = (whom.otherwise l p s.bits).1 (λ e. h (tt, e))
no_name l (Forget p) h = refl
no_name l Show h = refl
no_name l Unreadable h = refl

undecided : (k : ℕ) (l : List ℕ) (p s : ℕ) → (decide_of l p s).answer ≡ 12 → answer_text k (decide_of l p s) ≡ number_text k ++ (space ∷ []) ++ number_text 12 ++ (space ∷ []) ++ number_text (decide_of l p s).role ++ lf ∷ []
undecided k l p s u =
    let named : (decide_of l p s).role ≢ most_roles = λ e. (whom.otherwise l p s).0 e u in
    three-fields k (decide_of l p s) (omega (arith, named, decide-role l p s))
    ∙ ap (λ (a : ℕ). number_text k ++ (space ∷ []) ++ number_text a ++ (space ∷ []) ++ number_text (decide_of l p s).role ++ lf ∷ []) u

pub third-field : ThirdField
unfolding answer_of
third-field = record {
  undecided = λ k l p s u. undecided k l p s.bits u;
  otherwise = λ k l q h. two_fields k (answer_of l q).answer (no_name l q h);
}
