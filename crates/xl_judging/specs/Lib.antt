pub mod Judging
pub mod Calls
pub mod Versions
