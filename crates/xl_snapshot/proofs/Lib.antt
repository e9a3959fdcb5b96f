pub mod Returning
pub mod ComesBack
pub mod Putting
pub mod Later
