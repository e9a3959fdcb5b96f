pub mod OneNode
pub mod NodesWritten
pub mod Lent
mod Weights
mod MixedRows
mod FilledRows
pub mod FilledPlanes
mod KeptAlpha
mod PartsWritten
mod PaintMade
mod FilteredRows
pub mod Limited
mod ChannelMade
