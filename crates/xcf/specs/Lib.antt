pub mod Plain
pub mod Opened
pub mod Edited
pub mod TilePicture
pub mod Shown
pub mod Asked
pub mod Listed
pub mod WholePlane
