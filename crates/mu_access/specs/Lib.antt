pub mod View
pub mod Laws
pub mod Datagram
pub mod Parts
pub mod Read
