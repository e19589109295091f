-- What the contracts of `text` cite.
pub mod Ascii
pub mod Number
pub mod Set
pub mod Field
pub mod Write
pub mod Page
pub mod Lines
