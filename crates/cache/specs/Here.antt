-- An event on an area that is already in the policy state that the event leaves it in, for the functions that look at rows alone.
--     event_here l p e     the event e about p on such an area l
use Rattle.std.specs.Prelude.{List, ℕ}
use Rattle.meaning.specs.declared.Happening.{Happening}
use Rattle.area.specs.State.{state_of}
use Rattle.calls.specs.Calls.{Out, event_in}

abbrev pub event_here : List ℕ → ℕ → Happening → Out
event_here l p e = event_in l p e (state_of l).policy
