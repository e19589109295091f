-- The laws behind the code of `answers`; other crates use those of `Texts` and `ShowLaws`. `ThirdField` has the theorem of that name.
mod AnswerLaws
pub mod ShowLaws
pub mod OneOutcome
pub mod Texts
pub mod ThirdField
