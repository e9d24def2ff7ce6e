pub mod Difference
pub mod Back
