pub mod Sets
pub mod Answered
pub mod Begins
pub mod Events
pub mod Runs
