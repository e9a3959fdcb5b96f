pub mod Looking
pub mod Asking
pub mod Steps
mod Colours
mod Fits
mod Scoped
