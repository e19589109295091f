-- The laws of role sets: `Member` has what each operation says of one role, `Laws` what follows of sets, `Naming` what the part
-- test names, `RoleLists` and `Rests` the roles of a set in their order; `Tests`, beside them, what tests say.
pub mod Tests
mod Digits
mod Shift
pub mod Member
pub mod Laws
pub mod Naming
pub mod RoleLists
pub mod Rests
