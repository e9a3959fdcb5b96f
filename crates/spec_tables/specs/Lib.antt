pub mod Tables
pub mod Agrees
pub mod Acceptance
