-- The laws of the definitions, and the theorems of this crate, gathered in `Theorems`.
pub mod FieldLaws
pub mod RequestLaws
pub mod Made
pub mod Readings
pub mod Theorems
