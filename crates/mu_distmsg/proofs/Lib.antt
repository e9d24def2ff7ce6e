pub mod Fit
pub mod Entries
pub mod Back
