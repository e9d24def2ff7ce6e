pub mod Coming
pub mod Buffer
