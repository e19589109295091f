-- What the contracts and theorems of `service` cite.
pub mod Names
pub mod Stored
pub mod PrintedOut
pub mod FedAs
