pub mod LtxFormat
pub mod FirstFault
pub mod Reading
pub mod OneSpelling
pub mod FaultlessFiles
pub mod Writing
