pub mod Table
pub mod Leaving
