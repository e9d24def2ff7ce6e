pub mod Listed
pub mod New
