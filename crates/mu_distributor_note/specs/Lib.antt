pub mod Views
pub mod Layout
pub mod Rules
