pub mod Named
mod Wanted
mod Parts
