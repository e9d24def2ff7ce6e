pub mod CodeLemmas
pub mod TurnLemmas
