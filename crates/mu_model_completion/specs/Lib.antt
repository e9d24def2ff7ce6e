pub mod Turn
pub mod Worked
pub mod Completion
pub mod Answering
pub mod WorkedAnswering
