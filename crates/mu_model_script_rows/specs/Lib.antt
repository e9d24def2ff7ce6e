pub mod Scenes
pub mod Lines
pub mod Texts
pub mod Images
