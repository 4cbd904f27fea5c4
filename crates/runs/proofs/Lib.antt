pub mod Arms
pub mod Goes
pub mod Chains
pub mod Covers
pub mod Closes
pub mod Lives
pub mod Ran
