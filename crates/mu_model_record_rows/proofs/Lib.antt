pub mod Records
pub mod Flashes
pub mod Ranges
