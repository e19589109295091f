-- The laws of texts: the end ones in `Theorems`, what they stand on before them, and the readers along a line in `Walks`.
pub mod NumberLaws
pub mod SetLaws
pub mod WriteLaws
pub mod PageLaws
pub mod Shape
pub mod Theorems
pub mod Walks
pub mod LineLaws
pub mod Placed
