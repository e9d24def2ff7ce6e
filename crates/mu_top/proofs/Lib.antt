pub mod HandedOn
pub mod Told
mod Commands
pub mod Cuts
pub mod Places
pub mod Working
pub mod PayloadLines
mod Printing
mod HeldRuns
mod ImageTexts
