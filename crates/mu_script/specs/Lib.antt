pub mod View
pub mod Cursor
pub mod Words
