pub mod Asks
pub mod Runs
