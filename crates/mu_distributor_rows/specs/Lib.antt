pub mod Looks
pub mod Replies
pub mod Due
pub mod Receivers
pub mod Messages
pub mod Fits
pub mod Decided
pub mod Rows
