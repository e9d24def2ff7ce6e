pub mod Sents
pub mod Rounds
pub mod After
pub mod Time
pub mod Told
pub mod Begin
