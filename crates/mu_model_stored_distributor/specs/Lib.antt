pub mod DistributorIn
pub mod Steps
pub mod Kept
