-- What `feed` does with lines.
--     fed_by s good        what came of lines where the loop of `stream` stands at s, on an area that is good or not
--     FedAs l r l' bs      on the area l that loop has stopped, on the area l' and in the piece bs, and r is what came of it. Where it is
--                          done, what it wrote for the pieces that it read, and the area that it left, are those of the line program
--                          from l on; so the area is to be stored exactly where the loop is done and l' is a good area
use Rattle.std.specs.Prelude.{◌≡◌, Bool, true, false, List, ℕ}
use Rattle.area.specs.Layout.{good_bytes}
use Rattle.split.specs.Split.{whole}
use Rattle.lines.specs.Written.{lines_write, lines_leave}
use Rattle.stream.specs.declared.Flow.{Flow}
use Rattle.stream.specs.declared.Stand.{Stand}
use Rattle.stream.specs.declared.Stand.TheVariants.{Running, Failed, Done}
use Rattle.stream.specs.Moves.{Ran}
use Rattle.service.specs.declared.Fed.{Fed}
use Rattle.service.specs.declared.Fed.TheVariants.{Good, Bad, Unfinished}

abbrev pub fed_by : Stand → Bool → Fed
fed_by Done true = Good
fed_by Done false = Bad
fed_by Running good = Unfinished
fed_by Failed good = Unfinished

pub record FedAs (l : List ℕ) (r : Fed) (l' bs : List ℕ) : Type 0 where
  pub turns : ℕ
  pub flow : Flow
  pub ran : Ran l turns flow l' bs
  pub fed : r ≡ fed_by flow.stand (good_bytes l')
  pub wrote : flow.stand ≡ Done → ran.text ≡ lines_write l (whole ran.pieces)
  pub left : flow.stand ≡ Done → l' ≡ lines_leave l (whole ran.pieces)
