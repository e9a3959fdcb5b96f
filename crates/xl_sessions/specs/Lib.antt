pub mod Playing
-- a line and all lines of a session
pub mod Lines
-- a session's seat
pub mod Keeping
-- a full history
pub mod Full
-- what became of the lines of the sessions
pub mod Outcomes
-- sessions and workers beside each other
pub mod Players
