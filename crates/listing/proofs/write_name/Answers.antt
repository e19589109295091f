-- `listing::write_name` meets its contract. Assumes nothing.
use borrow.Author.Rules.{rules}
use native.Mathlib.Omega.{arith}
use Rattle.text.proofs.PageLaws.{on-buffer}
use Rattle.listing.proofs.Writing.{name-written}
use Rattle.listing.proofs.write_name.Goals as goal

pub returns : goal.returns
returns c =
    let r = c.requires.2 in
    let h = c.requires.3 in
    name-written c.args.out.now c.args.name.now c.args.bytes c.args.r c.requires.0 c.requires.1 (omega arith) c.write_pair.ensures (on-buffer c.new-page.ensures.bytes c.new-page.ensures.start c.push_bytes.ensures (search rules))
