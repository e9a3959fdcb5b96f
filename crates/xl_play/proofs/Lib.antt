pub mod Answered
pub mod Saved
pub mod ScriptPlayed
pub mod Submitted
mod OfFirst
mod Alone
mod Chests
mod Keeping
mod Lined
mod Plain
mod Grown
mod Seen
mod Stays
mod UnderWay
mod ViewTexts
mod ViewUnderWay
mod WholeText
mod Windowed
