-- The laws of lines held and lines split.
pub mod SplitLaws
