pub mod Served
pub mod Written
pub mod Opened
