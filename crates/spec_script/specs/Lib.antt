pub mod Words
pub mod Commands
pub mod Script
pub mod Limits
pub mod Fits
