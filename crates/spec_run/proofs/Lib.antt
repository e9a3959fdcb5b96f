pub mod Earlier
pub mod Fronts
pub mod LastFile
pub mod VersionsWithin
