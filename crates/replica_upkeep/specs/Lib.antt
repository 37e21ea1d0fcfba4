pub mod Levels
pub mod Kept
pub mod Faith
pub mod Answers
pub mod Turn
pub mod Maintained
