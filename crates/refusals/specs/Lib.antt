-- What the definitions of calls cite.
pub mod Refusals
