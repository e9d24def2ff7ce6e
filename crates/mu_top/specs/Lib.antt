pub mod Words
pub mod Ends
pub mod Replay
pub mod LineDone
pub mod Payloads
pub mod PayloadDone
pub mod HeldRun
pub mod Images
