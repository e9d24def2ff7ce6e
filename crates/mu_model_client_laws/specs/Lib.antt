pub mod Laws
pub mod Asked
pub mod Worked
pub mod WorkedInitiator
pub mod Wire
