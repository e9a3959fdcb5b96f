-- what becomes of a shelf
pub mod Saving
