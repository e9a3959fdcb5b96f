mod Bare
mod BareEdits
mod BareRules
pub mod Accepted
pub mod Chests
pub mod Made
pub mod Asked
pub mod Along
