pub mod Sameness
pub mod Homes
pub mod Names
pub mod Regions
pub mod PartNames
pub mod Texts
