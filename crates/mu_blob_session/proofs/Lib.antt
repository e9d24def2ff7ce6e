pub mod Currents
pub mod Rows
pub mod ChunkLooks
