-- What the contract of `gateway` cites.
pub mod Answered
