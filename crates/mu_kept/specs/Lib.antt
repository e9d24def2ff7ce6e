pub mod Fits
pub mod Views
pub mod Shows
pub mod Tags
pub mod Calls
pub mod Whole
pub mod Standing
