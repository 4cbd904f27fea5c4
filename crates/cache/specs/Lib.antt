pub mod Holding
pub mod Keeping
pub mod Leases
pub mod Parts
pub mod Whole
