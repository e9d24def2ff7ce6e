pub mod Events
pub mod Logging
pub mod Readings
