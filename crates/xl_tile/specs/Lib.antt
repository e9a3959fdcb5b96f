pub mod Behind
pub mod Block
pub mod Coded
pub mod Codes
pub mod Joined
pub mod Overlay
pub mod Packed
