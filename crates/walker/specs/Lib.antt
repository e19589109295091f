-- What the contracts of `walker` cite.
pub mod Walk
