pub mod NodesOf
pub mod Hulls
pub mod SelectedRows
pub mod Sample
pub mod Blank
pub mod NextId
pub mod RedAndAlpha
