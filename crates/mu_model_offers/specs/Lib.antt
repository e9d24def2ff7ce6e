pub mod Laws
pub mod Packets
