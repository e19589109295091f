-- What the contracts and theorems of calls that write into a lent buffer cite.
pub mod Print
pub mod Result
pub mod Grounds
