pub mod Readers
pub mod Fields
pub mod Messages
pub mod Begins
pub mod Longs
pub mod Fixed
pub mod Lists
pub mod Shorts
