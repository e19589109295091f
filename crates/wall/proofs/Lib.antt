-- What the proofs of `wall` cite, and its theorem.
mod Arguments
mod Showing
mod Sheets
mod Cut
mod Theorems
