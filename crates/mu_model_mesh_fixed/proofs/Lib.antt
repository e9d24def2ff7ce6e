pub mod Lists
pub mod Sound
pub mod Modes
pub mod Events
pub mod Settling
pub mod Runs
