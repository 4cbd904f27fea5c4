pub mod Meaning
pub mod Links
pub mod Cells
pub mod Tables
pub mod Numbers
pub mod Hashed
pub mod Numbered
