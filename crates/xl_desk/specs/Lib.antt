pub mod Needs
pub mod Places
pub mod Served
pub mod TileJobs
pub use Rattle.xl_calls.specs.Applicable
pub use Rattle.xl_calls.specs.Calls
pub use Rattle.xl_calls.specs.Edits
pub use Rattle.xl_calls.specs.Replies
