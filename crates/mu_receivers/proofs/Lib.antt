pub mod Lines
pub mod Chunks
pub mod Sets
mod Asked
mod LeastMissed
