-- What the line program has written when it stops.
--     LinesAnswered n f l bs   on an area of zeros, in n turns, the loop of `stream` has come to the flow f, on the area l and in the
--                              piece bs, and stops; what it wrote is a beginning of `program_writes` of the pieces that it read, and
--                              all of it where it is done
use Rattle.std.specs.Prelude.{◌≡◌, List, ◌++◌, ℕ, replicate}
use Rattle.area.specs.Layout.{area_bytes}
use Rattle.split.specs.Split.{whole}
use Rattle.lines.specs.Written.{program_writes}
use Rattle.stream.specs.declared.Flow.{Flow}
use Rattle.stream.specs.declared.Stand.TheVariants.{Done}
use Rattle.stream.specs.Moves.{Ran}

pub record LinesAnswered (n : ℕ) (f : Flow) (l bs : List ℕ) : Type 0 where
  pub ran : Ran (replicate area_bytes 0) n f l bs
  pub so_far : (u : List ℕ) × (ran.text ++ u ≡ program_writes (whole ran.pieces))
  pub all : f.stand ≡ Done → ran.text ≡ program_writes (whole ran.pieces)
