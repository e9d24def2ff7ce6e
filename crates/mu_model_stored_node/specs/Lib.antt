pub mod NodeIn
pub mod Steps
pub mod Kept
