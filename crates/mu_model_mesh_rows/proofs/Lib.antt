pub mod Evaluated
pub mod Worked
pub mod Plans
pub mod Tears
pub mod Settled
