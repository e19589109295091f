-- The laws of the area's definitions, and its theorems, gathered in `Theorems`.
pub mod RowLaws
pub mod Cells
pub mod Held
pub mod Rules
pub mod Bytes
pub mod CheckLaws
pub mod Full
pub mod Theorems
