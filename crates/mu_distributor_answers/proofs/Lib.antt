pub mod Asked
pub mod Written
pub mod Decided
pub mod Deleted
pub mod Ranges
