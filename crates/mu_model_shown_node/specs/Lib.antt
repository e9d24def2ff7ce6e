pub mod Shown
pub mod Next
