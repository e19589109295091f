-- The laws of telling a row and an area, and the theorems of this crate, gathered in `Theorems`.
pub mod RowTold
pub mod AreaTold
pub mod LinesTold
pub mod Theorems
