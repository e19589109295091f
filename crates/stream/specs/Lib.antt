-- What the contracts of `stream` cite.
pub mod Turns
pub mod Moves
