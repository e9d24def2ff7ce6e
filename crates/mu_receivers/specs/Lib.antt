pub mod Receivers
pub mod Messages
pub mod Slots
pub mod Chunks
pub mod Image
pub mod Reads
