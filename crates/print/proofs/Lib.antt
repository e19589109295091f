-- The laws behind the code of `print`, and its theorems, gathered in `Theorems`.
pub mod LineLaws
pub mod PrintLaws
pub mod Theorems
