pub mod Octets
pub mod RowOctets
pub mod Layouts
pub mod RowRules
