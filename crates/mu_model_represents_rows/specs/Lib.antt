pub mod NodeRecords
pub mod DistributorRecords
pub mod ManyReceivers
