pub mod Client
pub mod Wanted
