-- What the contracts and theorems of `area` cite: `Layout` has the numbers and the rules, `State` what an area holds,
-- `Parts` parts of the rules, which functions of the check test one by one.
pub mod Layout
pub mod State
pub mod Parts
