pub mod Replies
pub mod Suits
pub mod Views
pub mod Changes
pub mod Rows
pub mod Runs
pub mod Whole
