-- The laws of calls that write a text, and what is proved of all of them.
pub mod Laws
