pub mod Appended
pub mod Bands
pub mod Frame
pub mod Level
pub mod SoFar
pub mod TilesMade
