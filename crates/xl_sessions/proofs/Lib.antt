-- what a call or a save leaves
pub mod Made
-- the filters that are still there
pub mod Stocked
-- a call after what others made was heard
pub mod Refreshed
-- one call more
pub mod CallMore
-- one save more
pub mod SaveMore
-- one line more
pub mod SoFar
-- a line that ended, and one of which nothing was made, or all
pub mod Stops
pub mod Begun
-- some lines were played, and some are left
pub mod UnderWay
pub mod Keeps
-- lists beside each other
pub mod Zips
-- what the sessions bring
pub mod Brought
-- what became of their lines
pub mod Outcomes
pub mod PlayedParts
-- a full history, which none of them finds
pub mod Fulls
pub mod Counts
-- their seats joined
pub mod JoinedSeats
pub mod Finished
pub mod Seated
-- the threads
pub mod Plays
pub mod Each
pub mod Sent
