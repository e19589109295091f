-- The laws of rows read from an area's words, put into them, taken out and moved.
mod Middle
mod Regions
pub mod Moves
pub mod RowWords
mod Search
mod Runs
