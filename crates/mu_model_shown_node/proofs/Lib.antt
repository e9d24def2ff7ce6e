pub mod Memory
pub mod Records
