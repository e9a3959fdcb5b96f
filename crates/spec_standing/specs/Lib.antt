pub mod Change
pub mod Group
pub mod Steps
pub mod Now
pub mod History
