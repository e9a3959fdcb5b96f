pub mod Between
pub mod Painted
