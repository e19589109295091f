-- What the theorems of `carry` state.
pub mod Carry
