-- `split::said_whole` meets its contract. Assumes nothing.
use borrow.Author.Rules.{rules}
use mathlib.Core.List.{[]}
use mathlib.Core.Path.{sym, ap, ◌∙◌}
use native.Mathlib.Omega.{arith}
use Rattle.split.specs.Split.{said}
use Rattle.split.proofs.SplitLaws.{all-fits, all-over}
use Rattle.split.proofs.said_whole.Goals as goal

pub returns-then-line-gt-MOST_BYTES : goal.returns-then-line-gt-MOST_BYTES
unfolding said
returns-then-line-gt-MOST_BYTES c = sym (ap said (all-over [] c.args.line.now (omega arith) (search rules)))

pub returns : goal.returns
unfolding said
returns c = c.read_request.ensures ∙ sym (ap said (all-fits [] c.args.line.now (search rules)))
