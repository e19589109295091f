-- What the contracts and theorems of `listing` cite: `Listing` has the lines and the table made of them, `TablesMade` what is proved of both.
pub mod Listing
pub mod TablesMade
