mod Filterless
mod Following
mod Outcomes
mod Pictured
mod Written
pub mod Sent
