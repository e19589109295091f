-- What the proofs of `service` cite.
mod Printing
mod Feeding
