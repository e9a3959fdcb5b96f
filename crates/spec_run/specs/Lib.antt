pub mod Failed
pub mod First
pub mod Fronts
pub mod LastSaved
pub mod Versions
