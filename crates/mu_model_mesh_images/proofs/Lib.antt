pub mod Lists
pub mod Events
pub mod Settling
pub mod Runs
pub mod Active
