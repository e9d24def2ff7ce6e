pub mod Worked
pub mod Coming
pub mod Something
pub mod Ending
pub mod Grows
pub mod Settling
pub mod All
pub mod Members
