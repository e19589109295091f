-- What is loaded, and what lines are answered on.
--     load_bytes, Filled, LoadedInto    those of `files`
--     Starts l             lines may be answered on l: it is a good area, or zeros
use Rattle.std.specs.Prelude.{◌≡◌, List, ◌⊎◌, ℕ, T, replicate}
use Rattle.area.specs.Layout.{area_bytes, good_bytes}
pub use Rattle.files.specs.Loading.{load_bytes, Filled, LoadedInto}

abbrev pub Starts : List ℕ → Type 0
Starts l = T (good_bytes l) ⊎ (l ≡ replicate area_bytes 0)
