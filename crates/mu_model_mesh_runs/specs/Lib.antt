pub mod Ends
pub mod Goes
pub mod Stops
pub mod Work
pub mod Laws
pub mod Worked
