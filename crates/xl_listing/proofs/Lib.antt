pub mod NoFloats
pub mod NamesRead
pub mod NodesMade
pub mod Texts
pub mod Values
