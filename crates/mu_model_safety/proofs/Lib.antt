mod Places
pub mod Worlds
