pub mod Clients
pub mod Distributors
