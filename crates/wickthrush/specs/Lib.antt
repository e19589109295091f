-- What the contracts of `wickthrush` cite.
pub mod Numbers
