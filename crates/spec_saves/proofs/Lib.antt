pub mod Bounds
pub mod Staying
pub mod Ending
pub mod Acknowledged
mod Rows
