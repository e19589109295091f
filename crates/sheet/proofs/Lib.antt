-- The laws behind the code of `sheet`, and its theorems, gathered in `Theorems`.
pub mod Parts
pub mod Lengths
pub mod SheetLaws
pub mod Shown
pub mod Readings
pub mod Theorems
