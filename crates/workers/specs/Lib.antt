pub mod Few
pub mod Logs
pub mod Meshes
pub mod Outcomes
pub mod Shifts
