pub mod Editing
pub mod Entries
pub mod Holding
pub mod Room
pub mod Jobs
pub mod Tally
pub mod Answering
-- what stands after a history
pub use Rattle.spec_standing.specs.History
pub use Rattle.spec_standing.specs.Now
-- of calls and of tiles
pub use Rattle.xl_desk.specs.Calls
pub use Rattle.xl_desk.specs.Replies
pub use Rattle.xl_desk.specs.Needs
pub use Rattle.xl_desk.specs.Places
pub use Rattle.xl_desk.specs.Served
pub use Rattle.xl_desk.specs.TileJobs
