pub mod Texts
pub mod Fills
pub mod Cuts
