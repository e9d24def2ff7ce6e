pub mod Tiles
pub mod Metadata
pub mod Digests
