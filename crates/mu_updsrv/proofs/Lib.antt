pub mod Tags
pub mod Openings
pub mod Makings
pub mod Made
