-- The calls with their answers, pasts of them, and what is demanded.
pub mod Calls
pub mod Answers
pub mod Histories
pub mod Demands
pub mod Readings
