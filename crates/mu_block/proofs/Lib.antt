pub mod Chunks
pub mod Counts
pub mod Parts
pub mod Views
