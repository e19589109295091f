-- The laws of bytes as words, and what the loops of this crate cite.
pub mod Laws
pub mod Runs
mod WordRuns
