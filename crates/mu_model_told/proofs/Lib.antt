pub mod Numbers
pub mod Read
pub mod Told
pub mod Sent
pub mod Runs
pub mod Reached
pub mod AllSent
