mod Heard
mod Turns
mod Seats
mod Submitting
mod Saving
mod Playing
mod Texts
mod Shown
mod Plain
mod Serving
mod Desks
mod Answering
pub mod Talks
mod Faulty
mod Begun
