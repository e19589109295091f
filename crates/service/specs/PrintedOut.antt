-- What `print` hands to the output.
--     handed_over r        of how many bytes the result r says that they were handed to the output
--     handed_on t n        n bytes were, and t is what the output answered to the last of them: that it took all, or why not
--     PrintedOut l r       of the area l some text was handed over, as long as r says: nothing of a bad area, which is refused as one; of a
--                          good one a beginning of its lines, and all of them where the output took all
use Rattle.std.specs.Prelude.{◌≡◌, ◌≢◌, true, false, List, [], ◌++◌, ℕ, length, Ok, Err, IsOk}
use Rattle.std.specs.declared.result.Result.{Result}
use Rattle.std.specs.declared.io.Error.{Error}
use Rattle.area.specs.Layout.{good_bytes}
use Rattle.area.specs.State.{state_of}
use Rattle.print.specs.Printed.{printed}
use Rattle.service.specs.declared.PrintError.{PrintError}
use Rattle.service.specs.declared.PrintError.TheVariants.{BadArea, Cut}

abbrev pub handed_over : Result ℕ PrintError → ℕ
handed_over (Ok n) = n
handed_over (Err BadArea) = 0
handed_over (Err (Cut n why)) = n

abbrev pub handed_on : Result (Unit {0}) Error → ℕ → Result ℕ PrintError
handed_on (Ok u) n = Ok n
handed_on (Err why) n = Err (Cut n why)

pub record PrintedOut (l : List ℕ) (r : Result ℕ PrintError) : Type 0 where
  pub text : List ℕ
  pub handed : handed_over r ≡ length text
  pub bad : good_bytes l ≡ false → (r ≡ Err BadArea) × (text ≡ [])
  pub good : good_bytes l ≡ true → (r ≢ Err BadArea) × (u : List ℕ) × (text ++ u ≡ printed (state_of l))
  pub all : good_bytes l ≡ true → IsOk r → text ≡ printed (state_of l)
