pub mod Entries
pub mod Header
pub mod Ranges
pub mod Place
pub mod Reads
pub mod Found
