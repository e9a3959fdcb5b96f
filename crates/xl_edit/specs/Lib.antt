pub mod Kept
pub mod Fields
pub mod Layers
pub mod Flat
pub mod Nodes
pub mod Children
pub use Rattle.xl_paint.specs.Applied
