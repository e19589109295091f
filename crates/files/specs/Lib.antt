-- What the contracts of `files` cite.
pub mod Messages
pub mod Loading
