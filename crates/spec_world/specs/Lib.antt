pub mod World
pub mod Events
pub mod Right
pub mod RightSlot
pub mod Standing
pub mod Exact
