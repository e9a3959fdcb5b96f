pub mod Allowed
pub mod Moving
pub mod OneSlot
pub mod Simulates
mod GroupNumbers
pub mod Ids
pub mod GoesOn
pub mod Accepting
pub mod Pictures
pub mod SaveEntries
