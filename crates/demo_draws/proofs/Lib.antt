pub mod GeneratorLemmas
mod PageLemmas
mod CommitLemmas
pub mod DatabaseLemmas
pub mod RoundLemmas
