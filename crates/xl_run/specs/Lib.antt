-- the filters of the sessions
pub mod Filters
pub mod Opening
-- the printed lines of the sessions
pub mod Printing
