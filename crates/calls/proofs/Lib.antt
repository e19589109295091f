-- The laws of the calls' definitions and of pasts, and the demands, gathered in `Demands`.
pub mod CallLaws
pub mod Outcomes
pub mod Invariant
pub mod Grounds
mod Streams
pub mod Decisions
mod Forgetting
mod Full
mod Others
mod Areas
mod Positions
mod Readings
pub mod Numbers
pub mod Demands
