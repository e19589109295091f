-- What the contracts of `cache` cite beside the definitions of `calls`.
pub mod Fresh
pub mod Here
pub mod Sees
pub mod First
