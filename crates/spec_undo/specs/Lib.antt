pub mod Planes
pub mod Changed
