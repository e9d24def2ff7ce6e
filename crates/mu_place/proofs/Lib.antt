pub mod Places
pub mod WholeBank
