pub mod Fresh
pub mod Ran
pub mod Logged
pub mod Held
pub mod Work
