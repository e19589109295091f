use Rattle.std.proofs.Common.{◌-◌, ◌≡◌, length}
use Rattle.walker.specs.Walk.{walked}
use Rattle.answers.proofs.ShowLaws.{Partly}
use Rattle.answers.proofs.show.walk.Given as goal

-- what is shown from the walker's number on, is shown in all
abbrev pub invariant-loop-page : goal.invariant-loop-page
invariant-loop-page l = (l.page.out.ghost_name ≡ l.initial.page.out.ghost_name) × Partly l.fn.walker l.at l.fn.out l.walker l.page.at l.page.out.now

abbrev pub decreases-loop-page : goal.decreases-loop-page
decreases-loop-page l = length (walked l.walker.area.now) - l.walker.next
