pub mod Looks
pub mod Messages
pub mod Fits
pub mod Rows
pub mod Decided
