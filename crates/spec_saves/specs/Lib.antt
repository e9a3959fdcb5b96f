pub mod Names
pub mod Contents
pub mod Shelf
pub mod Returns
pub mod Acknowledged
