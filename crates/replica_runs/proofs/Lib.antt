pub mod RunLemmas
pub mod NewestLemmas
pub mod RoundLemmas
