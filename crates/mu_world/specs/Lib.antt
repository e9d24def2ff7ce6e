pub mod View
pub mod Member
pub mod Outcome
pub mod Moved
pub mod Bag
