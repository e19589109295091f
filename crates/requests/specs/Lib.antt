-- What the contracts and theorems of `requests` cite.
pub mod Fields
pub mod Request
pub mod Readings
