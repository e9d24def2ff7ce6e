pub mod Answered
pub mod Quiet
pub mod Suited
pub mod Told
pub mod Came
pub mod Work
