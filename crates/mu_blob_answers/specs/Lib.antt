pub mod Messages
pub mod Fits
