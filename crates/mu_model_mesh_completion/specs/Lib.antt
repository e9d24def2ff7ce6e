pub mod Settled
pub mod Laws
pub mod Worked
pub mod Carried
