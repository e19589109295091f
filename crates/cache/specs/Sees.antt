-- What `look` promises.
--     Sees k r    r is what the look k gives: the decision and the row, or a refusal, with which no row is shown
use Rattle.std.specs.Prelude.{◌≡◌, Result, Ok, Err}
use Rattle.meaning.specs.Rows.{blank, bare}
use Rattle.rows.specs.Stored.{stored_row, decided_of}
use Rattle.calls.specs.Calls.{Look, seen}
use Rattle.calls.specs.declared.Refusal.{Refusal}
use Rattle.calls.specs.Answers.{refusal_number}
use Rattle.cache.specs.declared.Looked.{Looked}

abbrev pub Sees : Look → Result Looked Refusal → Type 0
Sees k (Ok x) = (decided_of x.verdict ≡ k.decided) × (x.row ≡ stored_row k.row)
Sees k (Err r) = k ≡ seen (bare (refusal_number r)) blank
