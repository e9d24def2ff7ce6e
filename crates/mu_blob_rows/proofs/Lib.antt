pub mod Asked
pub mod Pulled
