pub mod Found
pub mod Rects
