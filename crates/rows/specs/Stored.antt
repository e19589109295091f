-- The values of the code as the rows of `meaning`, and back.
--     held l               the open sets that `l` holds: its first `count` places
--     places               one place more than a row may hold: a step can make one open set too many
--     padded k, stored k   the open sets of the list k in the first places, zeros behind them
--     Tidy m l             `l` is so stored, with at most m open sets
--     Proper l             `l` is so stored, with at most 15 open sets, ascending, none part of another
--     row_of, stored_row   the same for a row
--     decided_of           the decision of each verdict: Rules, Answers
--     refusal_number       the number of each refusal
--     Gives v t r          `r` is what t says of an event on the row v: the row of t, that nothing is known, or a refusal, which leaves v
use Rattle.std.specs.Prelude.{◌≡◌, List, ◌++◌, ℕ, ◌+◌, ◌-◌, ◌≤◌, length, take, replicate, Result, Ok, Err}
use Rattle.meaning.specs.Rows as meaning
use Rattle.rows.specs.declared.OpenSets.{OpenSets}
use Rattle.rows.specs.declared.Row.{Row}
use Rattle.rows.specs.declared.Refusal.{Refusal}
use Rattle.rows.specs.declared.Refusal.TheVariants.{Contradiction, Full}
use Rattle.rows.specs.declared.Verdict.{Verdict}
use Rattle.rows.specs.declared.Verdict.TheVariants.{Deny, Allow, Undecided}
use Rattle.rows.specs.declared.Settled.{Settled}
use Rattle.rows.specs.declared.Settled.TheVariants.{Recorded, Forgotten}

abbrev pub held : OpenSets → List ℕ
held l = take l.count l.sets

abbrev pub places : ℕ
places = 1 + meaning.most_opens

abbrev pub padded : List ℕ → List ℕ
padded k = k ++ replicate (places - length k) 0

abbrev pub stored : List ℕ → OpenSets
stored k = record { sets = padded k; count = length k }

pub record Tidy (m : ℕ) (l : OpenSets) : Type 0 where
  pub few : l.count ≤ m
  pub behind : l ≡ stored (held l)

pub record Proper (l : OpenSets) : Type 0 where
  pub tidy : Tidy meaning.most_opens l
  pub free : meaning.Free (held l)

abbrev pub row_of : Row → meaning.Row
row_of w = record { denied = w.denied.bits; opens = held w.opens }

abbrev pub stored_row : meaning.Row → Row
stored_row w = record { denied = record { bits = w.denied }; opens = stored w.opens }

abbrev pub decided_of : Verdict → meaning.Decided
decided_of Deny = meaning.bare 10
decided_of Allow = meaning.bare 11
decided_of (Undecided r) = meaning.undecided r

abbrev pub refusal_number : Refusal → ℕ
refusal_number Contradiction = 6
refusal_number Full = 7

abbrev pub Gives : meaning.Row → meaning.Settled → Result Settled Refusal → Type 0
Gives v t (Ok (Recorded w)) = (t.answer ≡ 0) × (w ≡ stored_row t.row)
Gives v t (Ok Forgotten) = t ≡ meaning.forgotten
Gives v t (Err r) = t ≡ meaning.unchanged (refusal_number r) v
