-- The arguments, and the texts that are made of a name.
--     most_name            a name of an area has so many bytes at most
--     ending, new_name n   `.new`; the name of the new file beside the area of the name n
--     say_print, say_feed  `print`, `feed`
--     Named n              the name n has 1 to `most_name` bytes
--     Chosen k w n r       of k arguments, the program's own name among them, w the first and n the second: r is what is asked for
--     Joined a n b r e     the first r bytes of e are a, the name n and b
use Rattle.std.specs.Prelude.{◌≡◌, List, [], ◌∷◌, ◌++◌, ◌↔◌, ℕ, ◌≤◌, length}
pub use Rattle.files.specs.Messages.{Joined}
use Rattle.service.specs.declared.Asked.{Asked}
use Rattle.service.specs.declared.Asked.TheVariants.{Print, Feed, BadName}

abbrev pub most_name : ℕ
most_name = 4091

abbrev pub ending : List ℕ
ending = 46 ∷ 110 ∷ 101 ∷ 119 ∷ []

abbrev pub new_name : List ℕ → List ℕ
new_name n = n ++ ending

abbrev pub say_print : List ℕ
say_print = 112 ∷ 114 ∷ 105 ∷ 110 ∷ 116 ∷ []

abbrev pub say_feed : List ℕ
say_feed = 102 ∷ 101 ∷ 101 ∷ 100 ∷ []

abbrev pub Named : List ℕ → Type 0
Named n = (1 ≤ length n) × (length n ≤ most_name)

pub record Chosen (k : ℕ) (w n : List ℕ) (r : Asked) : Type 0 where
  pub prints : (r ≡ Print) ↔ ((k ≡ 3) × Named n × (w ≡ say_print))
  pub feeds : (r ≡ Feed) ↔ ((k ≡ 3) × Named n × (w ≡ say_feed))
  pub bad-name : (r ≡ BadName) ↔ ((k ≡ 3) × ¬ (Named n))
