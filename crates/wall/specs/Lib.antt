-- What the contracts and theorems of `wall` cite: `Shown` has what a sheet shows by its arguments, `BuiltIn` and `Enough` what is proved of the standard names and of NAMES.
pub mod Asked
pub mod Standard
pub mod Shown
pub mod BuiltIn
pub mod Enough
