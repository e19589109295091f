-- What the contracts of `opens` cite: `Opens` has the rules, `Parts` parts of them, which functions test one by one.
pub mod Opens
pub mod Parts
