pub mod Covering
pub mod Small
