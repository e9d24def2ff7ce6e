pub mod Folds
pub mod Updaters
pub mod Distributors
pub mod Statuses
pub mod Placed
pub mod DistributorClients
pub mod DistributorStatuses
