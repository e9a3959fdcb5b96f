pub mod Pool
pub mod Steps
