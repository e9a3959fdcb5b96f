mod Histories
mod Kept
mod Statuses
mod Talks
