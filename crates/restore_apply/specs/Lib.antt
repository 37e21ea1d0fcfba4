pub mod Pages
pub mod Staging
pub mod Restoring
pub mod Writing
pub mod RestoreLaws
