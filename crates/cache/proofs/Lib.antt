-- From what the code reads and writes to what the calls' definitions say.
pub mod Places
pub mod Writes
pub mod Moving
pub mod Ladder
mod Calling
mod Fronts
