-- `Splitter::is_empty` meets its contract. Assumes nothing.
use borrow.Author.Rules.{rules}
use Rattle.split.proofs.SplitLaws.{empty-none}
use Rattle.split.proofs.Splitter.is_empty.Goals as goal

pub returns : goal.returns
returns c = empty-none c.args.self (search rules)
