pub mod Completed
pub mod Ended
