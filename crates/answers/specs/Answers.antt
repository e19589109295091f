-- The answer to a request, and the row to begin with where rows are shown.
--     Answered              an answer, with the role to ask about, and the bytes of the area afterwards
--     plain o               the answer and the bytes of a call that names no role
--     unreadable            what a line is answered that can't be read: Rules, Answers
--     answer_of l q         the answer to a request on the area l, and the bytes afterwards: those of the call it asks for
--     is_decide q           the request is a Q line
--     ThirdField            a Q line answered 12 has the role that decide gives as a third field; any other answer has two fields
--     first_shown l q       the number of the row to begin with; one that no row has where none is shown
--     Answers l q k at d r l' e    the answer to q on the area l is written as that to line k, from the place `at` of the buffer d on, and the rows
--                           that follow as far as there is room: l' is the area afterwards, and e the buffer
use Rattle.std.specs.Prelude.{◌≡◌, Bool, true, false, List, [], ◌∷◌, ◌++◌, ℕ, T}
use Rattle.roles.specs.declared.RoleSet.{RoleSet}
use Rattle.area.specs.Layout.{most_rows}
use Rattle.meaning.specs.Rows.{Decided, bare}
use Rattle.walker.specs.Walk.{first_row, start_answer}
use Rattle.calls.specs.Calls.{Out, stays, open_of, decide_of, forget_of}
use Rattle.calls.specs.Histories.{out_of, call_of}
use Rattle.text.specs.Ascii.{space, lf}
use Rattle.text.specs.Number.{number_text}
use Rattle.requests.specs.declared.Request.{Request}
use Rattle.requests.specs.declared.Request.TheVariants.{Open, Told, Decide, Forget, Show, Unreadable}
use Rattle.answers.specs.declared.show.Shown.{Shown}
use Rattle.answers.specs.Texts.{answer_text}
use Rattle.answers.specs.Show.{AnswerShown}

pub record Answered : Type 0 where
  pub answer : Decided
  pub area : List ℕ

abbrev pub plain : Out → Answered
plain o = record { answer = bare o.answer; area = o.area }

abbrev pub unreadable : ℕ
unreadable = 9

unfoldable pub answer_of : List ℕ → Request → Answered
answer_of l (Open n g) = plain (open_of l n g)
answer_of l (Told e) = plain (out_of (call_of e) l)
answer_of l (Decide p s) = record { answer = decide_of l p s.bits; area = l }
answer_of l (Forget p) = plain (forget_of l p)
answer_of l Show = plain (stays (start_answer l) l)
answer_of l Unreadable = plain (stays unreadable l)

unfoldable pub first_shown : List ℕ → Request → ℕ
first_shown l (Open n g) = most_rows
first_shown l (Told e) = most_rows
first_shown l (Decide p s) = most_rows
first_shown l (Forget p) = most_rows
first_shown l Show = first_row l
first_shown l Unreadable = most_rows

pub record Answers (l : List ℕ) (q : Request) (k at : ℕ) (d : List ℕ) (r : Shown) (l' e : List ℕ) : Type 0 where
  pub area : l' ≡ (answer_of l q).area
  pub written : AnswerShown k (answer_of l q).answer (answer_of l q).area (first_shown l q) at d r e

abbrev pub is_decide : Request → Bool
is_decide (Open n g) = false
is_decide (Told e) = false
is_decide (Decide p s) = true
is_decide (Forget p) = false
is_decide Show = false
is_decide Unreadable = false

pub record ThirdField : Type 0 where
  pub undecided : (k : ℕ) (l : List ℕ) (p : ℕ) (s : RoleSet) → (decide_of l p s.bits).answer ≡ 12
      → answer_text k (answer_of l (Decide p s)).answer ≡ number_text k ++ (space ∷ []) ++ number_text 12 ++ (space ∷ []) ++ number_text (decide_of l p s.bits).role ++ lf ∷ []
  pub otherwise : (k : ℕ) (l : List ℕ) (q : Request) → ¬ (T (is_decide q) × ((answer_of l q).answer.answer ≡ 12))
      → answer_text k (answer_of l q).answer ≡ number_text k ++ (space ∷ []) ++ number_text (answer_of l q).answer.answer ++ lf ∷ []
