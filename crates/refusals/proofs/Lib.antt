-- The laws of refusals.
pub mod Laws
