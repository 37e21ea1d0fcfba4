pub mod PageOffsets
pub mod Offsets
pub mod Cause
pub mod Reading
pub mod Resting
pub mod ReadLaws
