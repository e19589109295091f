-- What a call that writes a text gives in Rattle, and what C gets for it.
--     number_of e     the number of a refusal
--     written_of r    so many bytes written, with the answer 0; or the refusal's number, and no bytes
use Rattle.std.specs.Prelude.{ℕ, Result, Ok, Err}
use Rattle.written.specs.declared.Refusal.{Refusal}
use Rattle.written.specs.declared.Refusal.TheVariants.{BadArea, NoPermission, UnknownRole, ShortBuffer, BadNameTable, NoRow}
use Rattle.written.specs.declared.Written.{Written}

abbrev pub number_of : Refusal → ℕ
number_of BadArea = 1
number_of NoPermission = 3
number_of UnknownRole = 4
number_of ShortBuffer = 16
number_of BadNameTable = 17
number_of NoRow = 18

abbrev pub written_of : Result ℕ Refusal → Written
written_of (Ok n) = record { answer = 0; bytes = n }
written_of (Err e) = record { answer = number_of e; bytes = 0 }
