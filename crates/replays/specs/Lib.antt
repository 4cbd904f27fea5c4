pub mod Replay
pub mod Example
pub mod Standing
pub mod Replayed
pub mod Regtrace
