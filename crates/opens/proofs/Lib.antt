-- The laws of the rules for open sets, and what the functions cite.
pub mod OpenRules
pub mod Halves
mod OpensLaws
mod TwoLaws
mod PassLaws
