pub mod ActiveTexts
pub mod Events
pub mod Free
pub mod Counted
pub mod Bags
pub mod Sent
