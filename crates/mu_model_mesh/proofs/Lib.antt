pub mod AlikeRead
pub mod AlikeEvents
pub mod AlikeRuns
