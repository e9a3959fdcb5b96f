pub mod Gives
pub mod Behind
