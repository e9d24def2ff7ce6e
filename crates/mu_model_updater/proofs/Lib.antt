pub mod Ends
pub mod Begins
pub mod Runs
pub mod Told
pub mod Starts
pub mod Read
pub mod Worked
pub mod Lines
