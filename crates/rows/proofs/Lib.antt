-- What several proofs of this crate cite.
pub mod Padded
mod Walks
mod Sorting
mod Spots
pub mod Numbers
