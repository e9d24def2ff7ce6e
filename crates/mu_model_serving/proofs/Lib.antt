pub mod Linked
pub mod Alike
pub mod Missing
