pub mod Status
pub mod Words
pub mod Writing
pub mod Refusals
