pub mod Files
pub mod Seen
pub mod Stop
pub mod Answers
pub mod Exact
pub mod Laws
pub mod Lists
