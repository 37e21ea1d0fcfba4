pub mod BeingPut
pub mod Steps
