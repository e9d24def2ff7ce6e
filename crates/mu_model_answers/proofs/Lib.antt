pub mod Opcodes
pub mod Unanswered
