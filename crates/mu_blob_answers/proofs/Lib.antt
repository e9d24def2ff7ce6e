pub mod Short
pub mod Written
