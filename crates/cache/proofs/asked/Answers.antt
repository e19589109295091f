-- `cache::asked` meets its contract. Assumes nothing.
use mathlib.Core.Path.{sym}
use Rattle.table.specs.Table.{Sound}
use Rattle.table.proofs.RowWords.{sound}
use Rattle.cache.proofs.Calling.{is_true}
use Rattle.cache.proofs.Fronts.{passed}
use Rattle.cache.proofs.asked.Goals.{In_ok-about}
use Rattle.cache.proofs.asked.Goals as goal

-- past the front
is-sound : (c : In_ok-about) → Sound c.args.a.now
is-sound c = sound c.args.a.now (is_true _ (passed c.args.a.now c.args.p (sym c.in_ok-about.ensures)).0)

pub role_count-requires : goal.role_count-requires
role_count-requires c = is-sound (goal.at.role_count-requires c).In_ok-about
