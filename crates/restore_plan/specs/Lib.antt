pub mod Choice
pub mod ChosenChain
pub mod Listing
pub mod Moment
pub mod Progress
pub mod Retained
pub mod Run
pub mod Walk
