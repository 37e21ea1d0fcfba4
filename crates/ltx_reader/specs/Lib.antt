pub mod Reader
pub mod ReaderGiven
pub mod ReaderSteps
pub mod ReaderCause
pub mod ReaderIndex
