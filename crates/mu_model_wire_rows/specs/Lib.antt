pub mod Scenes
pub mod BlobMessages
pub mod UpdateMessages
pub mod DistributionMessages
pub mod Edges
pub mod Grammar
