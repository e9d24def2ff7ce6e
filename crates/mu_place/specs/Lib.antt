pub mod Place
pub mod Calls
pub mod Filled
