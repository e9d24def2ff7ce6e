pub mod Messages
pub mod Fits
pub mod Steps
pub mod Decides
pub mod Decisions
pub mod Images
