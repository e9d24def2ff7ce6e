pub mod Free
pub mod Memory
pub mod Written
pub mod Changed
