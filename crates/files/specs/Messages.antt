-- The texts that are made of a name.
--     most_path            the system takes names of so many bytes at most
--     message_room         a message has so many bytes at most
--     Joined a n b r e     the first r bytes of e are a, the name n and b
--     Tellable n           n is no longer than a name that the system takes: there is room for messages about it
use Rattle.std.specs.Prelude.{◌≡◌, List, ◌++◌, ℕ, ◌≤◌, length, take}
use Rattle.io.specs.Counts.{IsPrefixLen}

abbrev pub most_path : ℕ
most_path = 4095

abbrev pub message_room : ℕ
message_room = 65536

pub record Joined (a n b : List ℕ) (r : ℕ) (e : List ℕ) : Type 0 where
  pub counts : IsPrefixLen r e
  pub text : take r e ≡ a ++ n ++ b

abbrev pub Tellable : List ℕ → Type 0
Tellable n = length n ≤ most_path
