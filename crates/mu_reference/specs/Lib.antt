pub mod Words
pub mod View
pub mod Messages
pub mod Fits
pub mod BlobRows
pub mod Outcomes
pub mod UpdateRows
pub mod NodeRows
