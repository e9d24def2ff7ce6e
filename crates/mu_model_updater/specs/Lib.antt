pub mod Updater
pub mod Laws
pub mod Worked
