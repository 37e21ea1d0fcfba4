pub mod HeaderLemmas
pub mod FrameLemmas
pub mod WrittenLemmas
pub mod ChunkLemmas
pub mod PrefixLemmas
pub mod AcceptedLemmas
pub mod CutLemmas
pub mod CheckedLemmas
pub mod MarkLemmas
pub mod TakenLemmas
pub mod BackLemmas
pub mod LongestLemmas
pub mod LogLemmas
mod StandardFacts
pub mod ViewLemmas
