pub mod WordLists
pub mod Pieces
mod Refusals
