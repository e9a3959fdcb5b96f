pub mod Applied
pub mod Paint
pub mod Channels
pub mod Filling
pub mod Filtered
