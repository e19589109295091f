-- The laws of lists of names: the end ones in `Theorems`, what they stand on before them.
pub mod LineLaws
pub mod NamedLaws
pub mod Writing
pub mod Walk
pub mod Outcomes
mod Sizes
pub mod Theorems
