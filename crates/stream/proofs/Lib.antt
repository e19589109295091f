-- What the proofs of a turn and of the loop cite.
mod Idle
mod Came
mod Going
