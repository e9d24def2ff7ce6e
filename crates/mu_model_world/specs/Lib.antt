pub mod World
pub mod Outcomes
pub mod Judged
pub mod Run
pub mod Laws
