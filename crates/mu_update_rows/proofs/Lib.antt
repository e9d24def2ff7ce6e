pub mod Places
pub mod Phased
pub mod Checks
pub mod Steps
pub mod Ids
pub mod Said
