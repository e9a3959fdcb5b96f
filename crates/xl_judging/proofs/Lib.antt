pub mod Judged
pub mod Calling
pub mod Wanting
pub mod Sharing
