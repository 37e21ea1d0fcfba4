pub mod Keeping
pub mod RunLaws
pub mod Newest
pub mod NewestLaws
pub mod Rounds
pub mod RoundLaws
