-- What the contracts and theorems of `meaning` cite: `Events` says what is true, `States` in which policy state, `Rows` what is kept of it.
pub mod Events
pub mod States
pub mod Kinds
pub mod Lists
pub mod Rows
pub mod Says
