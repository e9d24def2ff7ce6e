pub mod Folds
pub mod Updaters
pub mod Distributors
pub mod Statuses
pub mod DistributorStatuses
