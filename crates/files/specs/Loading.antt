-- What was read into a buffer.
--     load_bytes           how many bytes of an area's file are loaded at most: one more than it has, so that a longer file is seen
--     Filled r e           as many bytes as r says stand at the start of the buffer e
--     ReadInto d r e       the buffer d is e afterwards: something was read into it; where a read failed it is as long
--     LoadedInto d r e     the buffer d is e afterwards: a file was read into it; where there is none it is as it was, and where the system
--                          refused it is as long
--     reason_of            what the system said, of a file that is missing or refused
use Rattle.std.specs.Prelude.{◌≡◌, List, ℕ, ◌+◌, length, Ok, Err}
use Rattle.std.specs.declared.result.Result.{Result}
use Rattle.std.specs.declared.io.Error.{Error}
use Rattle.area.specs.Layout.{area_bytes}
use Rattle.io.specs.Counts.{IsPrefixLen}
use Rattle.files.specs.declared.outside.Loaded.{Loaded}
use Rattle.files.specs.declared.outside.LoadError.{LoadError}
use Rattle.files.specs.declared.outside.LoadError.TheVariants.{Missing, Refused}

abbrev pub load_bytes : ℕ
load_bytes = area_bytes + 1

abbrev pub Filled : Loaded → List ℕ → Type 0
Filled r e = IsPrefixLen r.bytes e

abbrev pub ReadInto : List ℕ → Result Loaded Error → List ℕ → Type 0
ReadInto d (Ok r) e = Filled r e
ReadInto d (Err why) e = length e ≡ length d

abbrev pub LoadedInto : List ℕ → Result Loaded LoadError → List ℕ → Type 0
LoadedInto d (Ok r) e = Filled r e
LoadedInto d (Err (Missing why)) e = e ≡ d
LoadedInto d (Err (Refused why)) e = length e ≡ length d

abbrev pub reason_of : LoadError → Error
reason_of (Missing why) = why
reason_of (Refused why) = why
