-- What the contracts of `lines` cite, what is written for an input, and the area that it leaves.
pub mod Written
pub mod Run
pub mod Program
