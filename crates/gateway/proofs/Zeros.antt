-- What is written on an area of zeros is what the line program writes. Assumes nothing.
use mathlib.Core.Path.{◌≡◌}
use mathlib.Core.List.{List}
use Prim.Native.Nat.{ℕ}
use lib.ListN.{replicate}
use Rattle.area.specs.Layout.{area_bytes}
use Rattle.lines.specs.Written.{program_writes}
use Rattle.stream.specs.declared.Flow.{Flow}
use Rattle.stream.specs.Moves.{Ran}
use Rattle.gateway.specs.Answered.{LinesAnswered}

pub zeros-answered : {n : ℕ} {f : Flow} {z l bs : List ℕ} → z ≡ replicate area_bytes 0 → Ran z n f l bs → LinesAnswered n f l bs
unfolding program_writes
zeros-answered {n} {f} {z} {l} {bs} e r =
    let ran : Ran (replicate area_bytes 0) n f l bs = rw e at r in
    record { ran = ran; so_far = ran.so_far; all = ran.all }
