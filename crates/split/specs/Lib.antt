-- What the contracts of `split` cite, and the lines of an input.
pub mod Split
