pub mod AddedTiles
pub mod Near
