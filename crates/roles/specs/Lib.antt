-- What the contracts of `roles` cite.
pub mod Sets
