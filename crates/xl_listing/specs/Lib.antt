pub mod Labels
pub mod Members
