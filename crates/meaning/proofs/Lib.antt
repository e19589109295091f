-- The laws of the definitions, and the theorems of this crate, gathered in `Theorems`.
pub mod ListLaws
pub mod Walks
pub mod OpenLaws
pub mod Adding
pub mod Steps
pub mod Kept
pub mod Verdicts
mod Says
pub mod Answers
pub mod Trails
pub mod States
pub mod KindLaws
pub mod Canonical
pub mod Singles
pub mod Theorems
