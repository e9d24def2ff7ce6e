pub mod Lists
pub mod Bits
pub mod Masks
pub mod Counts
pub mod Octets
pub mod Listing
pub mod Reading
