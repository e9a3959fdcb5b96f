-- what a session knows
pub mod Seen
-- its calls, and their results
pub mod Replies
pub mod Answered
pub mod Saved
-- the opening
pub mod Opened
