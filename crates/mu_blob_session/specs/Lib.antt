pub mod Blocks
pub mod Sessions
pub mod Sound
pub mod Opens
pub mod Came
