pub mod ClockLemmas
pub mod Handing
pub mod LimitedLemmas
pub mod LinkLemmas
pub mod ListLemmas
pub mod NamedLemmas
pub mod StreamLemmas
pub mod TearLemmas
