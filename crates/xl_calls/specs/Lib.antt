pub mod Edits
pub mod Calls
pub mod Replies
pub mod Applicable
