pub mod Parts
pub mod Notes
pub mod Spelled
