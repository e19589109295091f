-- `wall::standard_table` meets its contract: the list in its code is the one of the definition, and no line of it is refused. Assumes nothing.
use borrow.Author.Rules.{rules}
use mathlib.Core.Path.{sym, subst}
use Rattle.std.specs.Result.{IsOk}
use Rattle.io.proofs.Counting.{prefix_len_of_le}
use Rattle.listing.specs.Listing.{listing, Lists}
use Rattle.listing.proofs.Theorems.{made_inside, made-first, made_whole}
use Rattle.wall.specs.Standard.{standard_list, standard_table}
use Rattle.wall.proofs.Theorems.{built_in}
use Rattle.wall.proofs.standard_table.Goals as goal

pub unwrap-requires : goal.unwrap-requires
unfolding standard_list
unwrap-requires c = subst IsOk (sym (made_whole built_in.none-refused c.make_table.ensures)) (search rules)

pub returns : goal.returns
unfolding standard_list standard_table
returns c =
    let made = subst (λ r. Lists (listing standard_list) r c.args.out.now c.make_table.new.out) c.unwrap.ensures c.make_table.ensures in
    (prefix_len_of_le _ _ (made_inside standard_list c.requires made), made-first standard_list c.requires made)
