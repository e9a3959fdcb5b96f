pub mod Decoded
pub mod Listing
pub mod Draft
pub mod Parts
pub mod Head
pub mod Room
pub mod Yields
