pub mod Sessions
pub mod Looks
pub mod Rows
pub mod Pulls
