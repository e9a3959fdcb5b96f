mod Colours
mod Checking
mod Plain
pub mod Asking
mod Outcomes
pub mod Own
mod Tiles
mod Heads
mod Walked
