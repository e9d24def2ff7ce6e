pub mod Runs
pub mod Safe
pub mod Facts
pub mod Laws
