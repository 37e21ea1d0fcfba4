pub mod PageSizeLemmas
pub mod StandardFacts
pub mod TxidLemmas
pub mod MapLemmas
pub mod StateLemmas
pub mod ChangeLemmas
pub mod HistoryLemmas
