pub mod Words
pub mod Numbers
pub mod Causes
pub mod Reads
