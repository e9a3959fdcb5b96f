pub mod Parasites
pub mod Listing
