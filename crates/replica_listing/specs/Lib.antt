pub mod Digits
pub mod MomentText
pub mod Listing
pub mod Printing
