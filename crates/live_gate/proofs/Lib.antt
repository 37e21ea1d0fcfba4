pub mod StepLemmas
pub mod PieceLemmas
pub mod StillLemmas
pub mod CommitLemmas
pub mod StillLegalLemmas
pub mod Theorems
pub mod MoveLemmas
pub mod CopyLemmas
pub mod StopLemmas
pub mod StandardFacts
mod HistoryFacts
