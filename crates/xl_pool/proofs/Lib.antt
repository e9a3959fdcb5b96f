pub mod Joined
pub mod Between
mod Once
mod Standing
mod Few
pub mod InTurn
mod Turns
mod Trees
mod Listed
mod Came
mod Back
