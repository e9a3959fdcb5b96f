pub mod Places
pub mod Entries
pub mod More
pub mod Shown
pub mod Whole
