pub mod Sizes
pub mod Meta
pub mod Pieces
pub mod Made
pub mod Laws
