mod Leaves
mod Painted
mod Painter
mod Replayed
pub mod Merged
pub mod Generated
mod Commuting
pub mod Ends
pub mod MadeFiles
pub mod MadeScripts
