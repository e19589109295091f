-- The laws behind the code of `lines`, and the theorems on its runs and what they write.
mod Rows
mod Places
mod Steps
pub mod Turns
pub mod Program
pub mod Left
pub mod Runs
