pub mod MomentLemmas
pub mod PrintingLemmas
