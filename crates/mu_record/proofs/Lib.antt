pub mod PartLemmas
pub mod RunLemmas
pub mod EntryLemmas
pub mod SpellLemmas
pub mod WriteLemmas
pub mod FoundLemmas
pub mod AnewLemmas
