pub mod Timed
pub mod Presence
pub mod Statuses
pub mod Unknown
pub mod Heard
pub mod Waits
