pub mod Sound
pub mod Looks
pub mod Shows
pub mod Steps
