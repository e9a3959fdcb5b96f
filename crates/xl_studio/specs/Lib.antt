-- what a front lists
pub mod Moments
-- what lies under the lock
pub mod State
-- what a call makes
pub mod Calling
pub mod Seats
-- what a save makes
pub mod Saving
-- a save between its two holds
pub mod UnderWay
-- which jobs are given out, and which seat has one
pub mod Taking
pub mod Jobs
-- what a call came to
pub mod Answered
-- a tile that is composed outside the turn, before the call that asks for it
pub mod Refreshing
-- of a core
pub use Rattle.xl_history.specs.Editing
pub use Rattle.xl_history.specs.History
