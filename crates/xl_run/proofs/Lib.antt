-- the filters that the sessions bring, and those that are still there
pub mod Boxes
pub mod Chests
mod Opened
mod Lines
-- they are the printed text
mod Printed
-- each entry has a line
pub mod Lined
