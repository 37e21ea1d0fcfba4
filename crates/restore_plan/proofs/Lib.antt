pub mod ChainLemmas
pub mod LastLemmas
pub mod MomentLemmas
pub mod OrderLemmas
pub mod RunLemmas
pub mod WalkLemmas
mod StandardFacts
