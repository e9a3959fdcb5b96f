pub mod Following
pub mod AnyCoder
pub mod OnePlain
mod Rows
mod WholeRows
