pub mod MapLemmas
pub mod TellLemmas
pub mod ReadLemmas
pub mod PageLemmas
pub mod RestLemmas
pub mod OffsetLemmas
pub mod LimitLemmas
