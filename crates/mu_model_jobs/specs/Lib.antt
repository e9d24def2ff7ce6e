pub mod Places
pub mod States
pub mod Transfers
pub mod Parts
pub mod Images
