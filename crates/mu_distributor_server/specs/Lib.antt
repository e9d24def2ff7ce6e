pub mod Views
pub mod Ways
pub mod Shows
pub mod Boots
pub mod Events
pub mod Requests
