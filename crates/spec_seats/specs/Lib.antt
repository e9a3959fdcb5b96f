-- the entries at some places of a history
pub mod Picked
-- saves that have ended
pub mod Ended
-- what a session has made
pub mod Made
-- the digests of what it was shown
pub mod Digests
