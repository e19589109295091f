-- What the proofs of `files` cite.
pub mod Joins
