-- The laws of a walk over the rows of an area.
pub mod WalkLaws
